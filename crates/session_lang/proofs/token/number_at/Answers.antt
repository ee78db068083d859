use Rattle.std.proofs.Common.{◌≡◌, ◌<◌, ◌++◌, ◌∷◌, [], ◌+◌, length, take, drop, get_or, arith, ap, sym, ◌∙◌, length-append, length-take, subst, min, rules}
use Rattle.std.proofs.lemmas.List.{take_all}
use Rattle.std.proofs.lemmas.Fmt.{decimal_nonempty}
use Rattle.std.specs.Fmt.{decimal}
use Rattle.session_lang.specs.Numbers.{IsDigitByte, value_on}
use Rattle.session_lang.proofs.Split.{cut, opened, nil_of, spelled}
use Rattle.session_lang.proofs.Numbers.{over, zeros, too_low, whole_of, canonical}
use Rattle.session_lang.proofs.token.number_at.Goals as goal

pub returns-then-is_empty : goal.returns-then-is_empty
returns-then-is_empty c =
    let n = c.args.most in
    let nothing : c.args.bytes.now ≡ [] = nil_of c.args.bytes.now (grind arith) in
    (n, decimal n ++ c.args.stop ∷ [], (omega arith, omega arith), (λ e. omega (arith, ap length e, length-append (decimal n) (c.args.stop ∷ []))), ap (λ b. b ++ (decimal n ++ c.args.stop ∷ [])) nothing)

pub returns-else-is_empty : goal.returns-else-is_empty
returns-else-is_empty c n more rest ok e =
    let bytes = c.args.bytes.now in
    let some : 0 < length bytes = grind arith in
    let at : c.digits_len-count.result ≡ 0 = c.if-count-eq0.true in
    let out : IsDigitByte (get_or bytes 0 0) → ⊥ = subst (λ k. k < length bytes → IsDigitByte (get_or bytes k 0) → ⊥) at c.digits_len-count.ensures.stop some in
    let w = whole_of c.args.stop c.requires.stop [] (drop 1 bytes ++ more) rest (get_or bytes 0 0) n (omega arith) tt out (opened bytes more 0 some ∙ e) in
    omega (arith, ap length w.0, decimal_nonempty n (omega arith))

pub returns-then-is_padded : goal.returns-then-is_padded
returns-then-is_padded c n more rest ok e =
    let bytes = c.args.bytes.now in
    let k = c.digits_len-count.result in
    let pad = c.is_padded.ensures.yes (search rules) in
    zeros c.args.stop c.requires.stop (take k bytes) (drop k bytes ++ more) rest n (omega arith) c.digits_len-count.ensures.front pad.0 pad.1 (cut bytes more k ∙ e)

pub returns-in_default : goal.returns-in_default
returns-in_default c n more rest ok e =
    let bytes = c.args.bytes.now in
    let k = c.digits_len-count.result in
    over c.args.stop c.requires.stop (take k bytes) (drop k bytes ++ more) rest n c.args.most (omega arith) c.digits_len-count.ensures.front (search rules) ok.1 (cut bytes more k ∙ e)

pub returns-then-value-least : goal.returns-then-value-least
returns-then-value-least c n more rest ok e =
    let bytes = c.args.bytes.now in
    let k = c.digits_len-count.result in
    let same : c.in-Some.value ≡ value_on 0 (take k bytes) = c.in-Some.ensures.found.0 in
    too_low c.args.stop c.requires.stop (take k bytes) (drop k bytes ++ more) rest n c.args.least (omega arith) c.digits_len-count.ensures.front
    (omega (arith, length-take k bytes)) (c.is_padded.ensures.no (search rules)) (omega (arith, same)) c.requires.least ok.0 (cut bytes more k ∙ e)

pub returns-then-count-bytes : goal.returns-then-count-bytes
returns-then-count-bytes c =
    let bytes = c.args.bytes.now in
    let k = c.digits_len-count.result in
    let same : c.in-Some.value ≡ value_on 0 (take k bytes) = c.in-Some.ensures.found.0 in
    let one = c.is_padded.ensures.no (search rules) in
    let len : length (take k bytes) ≡ k = length-take k bytes ∙ (let m : min k (length bytes) ≡ k = omega arith in m) in
    let w : decimal (value_on 0 (take k bytes)) ≡ take k bytes = canonical (take k bytes) c.digits_len-count.ensures.front (omega arith) (λ h. let j = one h in omega arith) (omega arith) in
    let all : decimal c.in-Some.value ≡ bytes = ap decimal same ∙ w ∙ take_all k bytes (omega arith) in
    (c.in-Some.value, c.args.stop ∷ [], (omega arith, c.in-Some.ensures.found.1), (λ f. cc), ap (λ b. b ++ c.args.stop ∷ []) (sym all))

pub returns-then-bytes-count : goal.returns-then-bytes-count
returns-then-bytes-count c n more rest ok e =
    let bytes = c.args.bytes.now in
    let k = c.digits_len-count.result in
    let lt : k < length bytes = omega arith in
    let w = whole_of c.args.stop c.requires.stop (take k bytes) (drop (k + 1) bytes ++ more) rest (get_or bytes k 0) n (omega arith) c.digits_len-count.ensures.front (c.digits_len-count.ensures.stop lt) (opened bytes more k lt ∙ e) in
    c.if-bytes-count.true w.1

pub returns : goal.returns
returns c =
    let bytes = c.args.bytes.now in
    let k = c.digits_len-count.result in
    let lt : k < length bytes = omega arith in
    let same : c.in-Some.value ≡ value_on 0 (take k bytes) = c.in-Some.ensures.found.0 in
    let one = c.is_padded.ensures.no (search rules) in
    let len : length (take k bytes) ≡ k = length-take k bytes ∙ (let m : min k (length bytes) ≡ k = omega arith in m) in
    let w : decimal (value_on 0 (take k bytes)) ≡ take k bytes = canonical (take k bytes) c.digits_len-count.ensures.front (omega arith) (λ h. let j = one h in omega arith) (omega arith) in
    let all : decimal c.in-Some.value ≡ take k bytes = ap decimal same ∙ w in
    ((omega arith, c.in-Some.ensures.found.1), spelled bytes (decimal c.in-Some.value) k c.args.stop lt all (search rules))
