-- One command more: the state, the replies, the failures and the checks of commands one after another.
use Rattle.std.proofs.Common.{◌≡◌, ◌+◌, Bool, true, false, ◌||◌, List, [], ◌∷◌, ◌++◌, refl, ap, sym, ◌∙◌, arith, append_assoc, append-nil}
use Rattle.session_lang.specs.Spelling.{Said}
use Rattle.hsmake_top.specs.Session.{State, after, state_after, replies, reply_of, any_fails, fails, all_checks, checks}

pub state_more : (s : State) (cs : List Said) (c : Said) → state_after s (cs ++ c ∷ []) ≡ after (state_after s cs) c
state_more s [] c = refl
state_more s (d ∷ cs) c = state_more (after s d) cs c

pub replies_on : (s : State) (cs ds : List Said) → replies s (cs ++ ds) ≡ replies s cs ++ replies (state_after s cs) ds
replies_on s [] ds = refl
replies_on s (d ∷ cs) ds = ap (λ x. reply_of s d ++ x) (replies_on (after s d) cs ds) ∙ sym (append_assoc (reply_of s d) (replies (after s d) cs) (replies (state_after (after s d) cs) ds))

pub replies_more : (s : State) (cs : List Said) (c : Said) → replies s (cs ++ c ∷ []) ≡ replies s cs ++ reply_of (state_after s cs) c
replies_more s cs c = replies_on s cs (c ∷ []) ∙ ap (λ x. replies s cs ++ x) (append-nil (reply_of (state_after s cs) c))

or_assoc : (a b c : Bool) → (a || b) || c ≡ a || (b || c)
or_assoc true b c = refl
or_assoc false b c = refl

or_false : (a : Bool) → a || false ≡ a
or_false true = refl
or_false false = refl

pub fails_more : (s : State) (cs : List Said) (c : Said) → any_fails s (cs ++ c ∷ []) ≡ any_fails s cs || fails (state_after s cs) c
fails_more s [] c = or_false (fails s c)
fails_more s (d ∷ cs) c = ap (λ x. fails s d || x) (fails_more (after s d) cs c) ∙ sym (or_assoc (fails s d) (any_fails (after s d) cs) (fails (state_after (after s d) cs) c))

pub checks_more : (s : State) (cs : List Said) (c : Said) → all_checks s (cs ++ c ∷ []) ≡ all_checks s cs + checks (state_after s cs) c
checks_more s [] c = omega arith
checks_more s (d ∷ cs) c = omega (arith, checks_more (after s d) cs c)
