-- Figures, each with the band that it met, and the least change that brings them all inside.
use Rattle.std.specs.Prelude.{◌≡◌, ℕ, ◌+◌, List, [], ◌∷◌, ℤ, pos, ◌-ℤ◌, ◌≤ℤ◌, Option, unsigned_abs}
use Rattle.bands.specs.Ends.{AtLeast, AtMost}

-- a figure, and the ends of the band by which it was judged
pub record Judged : Type 0 where
  pub low : Option ℤ
  pub high : Option ℤ
  pub figure : ℤ

-- a value lies inside the band of a figure
abbrev pub Inside : Judged → ℤ → Type 0
Inside j v = AtLeast j.low v × AtMost j.high v

-- a series has as many values as there are figures, each inside the band of its figure
abbrev pub InsideAll : List Judged → List ℤ → Type 0
InsideAll [] [] = Unit {0}
InsideAll [] (v ∷ vs) = ⊥
InsideAll (j ∷ js) [] = ⊥
InsideAll (j ∷ js) (v ∷ vs) = Inside j v × InsideAll js vs

-- the change from the figures to a series: the sum of the absolute differences
abbrev pub change : List Judged → List ℤ → ℕ
change [] vs = 0
change (j ∷ js) [] = 0
change (j ∷ js) (v ∷ vs) = unsigned_abs (v -ℤ j.figure) + change js vs

-- t is the least change: every series inside the bands differs from the figures by at least t, and one by exactly t
pub record LeastChange (js : List Judged) (t : ℤ) : Type 0 where
  pub least : (vs : List ℤ) → InsideAll js vs → t ≤ℤ pos (change js vs)
  pub reached : (vs : List ℤ) × InsideAll js vs × (pos (change js vs) ≡ t)
