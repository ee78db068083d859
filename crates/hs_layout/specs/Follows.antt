-- What a function that follows a rule does with the frames and the signs that are put.
use Rattle.std.specs.Prelude.{◌≡◌, List, ◌++◌}
use Rattle.hs_syntax.specs.declared.token.PutSign.{PutSign}
use Rattle.hs_layout.specs.declared.frame.Frame.{Frame}
use Rattle.hs_layout.specs.Rules.{Step}

abbrev pub Follows : Step → List Frame → List PutSign → List PutSign → Type 0
Follows s frames before after = (frames ≡ s.frames) × (after ≡ before ++ s.puts)
