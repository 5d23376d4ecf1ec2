-- The participation of a group in a service, from the status samples of a minute: '1' (49) is on, '0' (48) off, '-' (45) lost.
use Rattle.std.specs.Prelude.{◌≡◌, ℕ, ◌<◌, Bool, true, false, cond, ◌&&◌, ◌||◌, List, length, fold, Option, ◌==◌, slice_index}
use Rattle.std.specs.List.{list_all}
use Rattle.quantity.specs.Refusals.{unless}
use Rattle.group_report.specs.declared.participation.Participation.{Participation}
use Rattle.group_report.specs.declared.participation.Participation.TheVariants.{Untouched, Whole, Broken}

-- a sample that can be read
abbrev pub readable : ℕ → Bool
readable sample = sample == 49 || sample == 48 || sample == 45

-- the status samples of a minute: thirty, each readable
abbrev pub sampled : List ℕ → Bool
sampled xs = length xs == 30 && list_all readable xs

-- anything else is refused with 10
abbrev pub samples_refusal : List ℕ → Option ℕ
samples_refusal xs = unless (sampled xs) 10

-- on keeps a participation whole, or makes it so at the first sample; anything else breaks it for good
abbrev pub after_sample : Participation → ℕ → Participation
after_sample Untouched sample = cond (sample == 49) Whole Broken
after_sample Whole sample = cond (sample == 49) Whole Broken
after_sample Broken sample = Broken

-- the participation after all samples, untouched before the first
abbrev pub participation_of : List ℕ → Participation
participation_of xs = fold after_sample Untouched xs

-- a group takes part where its participation is whole
abbrev pub is_whole : Participation → Bool
is_whole Untouched = false
is_whole Whole = true
is_whole Broken = false

-- thirty samples, and the signal on in each
pub record OnThroughout (xs : List ℕ) : Type 0 where
  pub thirty : length xs ≡ 30
  pub on : (k : ℕ) → k < length xs → slice_index xs k ≡ 49
