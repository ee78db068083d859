-- The signs by the tests for them.
use Rattle.std.proofs.Common.{◌≡◌, true, false, refl}
use Rattle.hs_syntax.specs.declared.sign.Sign.{Sign}
use Rattle.hs_syntax.specs.declared.sign.Sign.TheVariants.{OpenBrace, CloseBrace, Comma, CloseParen, CloseSquare, Equals, Typed, Arrow, Back, Bar, Dots, In, Of, Then, Else, Where, Semicolon, Minus}
use Rattle.hs_syntax.specs.Reading.{is_comma, is_close_paren, is_close_square, is_equals, is_typed, is_arrow, is_back, is_bar, is_dots, is_in, is_of, is_then, is_else, is_where, is_semicolon}
use Rattle.hs_parts.specs.PatternReaders.{is_brace, is_close_brace}
use Rattle.expr_parts.specs.Expressions.{is_minus}

pub comma_is : (k : Sign) → is_comma k ≡ true → k ≡ Comma
comma_is Comma e = refl
comma_is _ e = absurd (let x : ⊥ = cc in x)

pub close_paren_is : (k : Sign) → is_close_paren k ≡ true → k ≡ CloseParen
close_paren_is CloseParen e = refl
close_paren_is _ e = absurd (let x : ⊥ = cc in x)

pub close_square_is : (k : Sign) → is_close_square k ≡ true → k ≡ CloseSquare
close_square_is CloseSquare e = refl
close_square_is _ e = absurd (let x : ⊥ = cc in x)

pub equals_is : (k : Sign) → is_equals k ≡ true → k ≡ Equals
equals_is Equals e = refl
equals_is _ e = absurd (let x : ⊥ = cc in x)

pub typed_is : (k : Sign) → is_typed k ≡ true → k ≡ Typed
typed_is Typed e = refl
typed_is _ e = absurd (let x : ⊥ = cc in x)

pub arrow_is : (k : Sign) → is_arrow k ≡ true → k ≡ Arrow
arrow_is Arrow e = refl
arrow_is _ e = absurd (let x : ⊥ = cc in x)

pub back_is : (k : Sign) → is_back k ≡ true → k ≡ Back
back_is Back e = refl
back_is _ e = absurd (let x : ⊥ = cc in x)

pub bar_is : (k : Sign) → is_bar k ≡ true → k ≡ Bar
bar_is Bar e = refl
bar_is _ e = absurd (let x : ⊥ = cc in x)

pub dots_is : (k : Sign) → is_dots k ≡ true → k ≡ Dots
dots_is Dots e = refl
dots_is _ e = absurd (let x : ⊥ = cc in x)

pub in_is : (k : Sign) → is_in k ≡ true → k ≡ In
in_is In e = refl
in_is _ e = absurd (let x : ⊥ = cc in x)

pub of_is : (k : Sign) → is_of k ≡ true → k ≡ Of
of_is Of e = refl
of_is _ e = absurd (let x : ⊥ = cc in x)

pub then_is : (k : Sign) → is_then k ≡ true → k ≡ Then
then_is Then e = refl
then_is _ e = absurd (let x : ⊥ = cc in x)

pub else_is : (k : Sign) → is_else k ≡ true → k ≡ Else
else_is Else e = refl
else_is _ e = absurd (let x : ⊥ = cc in x)

pub where_is : (k : Sign) → is_where k ≡ true → k ≡ Where
where_is Where e = refl
where_is _ e = absurd (let x : ⊥ = cc in x)

pub semicolon_is : (k : Sign) → is_semicolon k ≡ true → k ≡ Semicolon
semicolon_is Semicolon e = refl
semicolon_is _ e = absurd (let x : ⊥ = cc in x)

pub minus_is : (k : Sign) → is_minus k ≡ true → k ≡ Minus
minus_is Minus e = refl
minus_is _ e = absurd (let x : ⊥ = cc in x)

pub brace_is : (k : Sign) → is_brace k ≡ true → k ≡ OpenBrace false
brace_is (OpenBrace false) e = refl
brace_is (OpenBrace true) e = absurd (let x : ⊥ = cc in x)
brace_is _ e = absurd (let x : ⊥ = cc in x)

pub close_brace_is : (k : Sign) → is_close_brace k ≡ true → k ≡ CloseBrace false
close_brace_is (CloseBrace false) e = refl
close_brace_is (CloseBrace true) e = absurd (let x : ⊥ = cc in x)
close_brace_is _ e = absurd (let x : ⊥ = cc in x)
