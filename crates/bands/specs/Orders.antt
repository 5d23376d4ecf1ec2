-- The foremost thing of a run, and the first of those.
use Rattle.std.specs.Prelude.{◌≡◌, ℕ, ◌<◌, Bool, true, false, List, length, slice_index_or}

-- the thing at a place stands no later than any thing in the run, and each one before it in the run stands strictly after it
pub record FirstForemost {X : Type 0} (ahead : X → X → Bool) (run : List X) (place : ℕ) : Type 0 where
  pub in_run : place < length run
  pub foremost : (k : ℕ) (d : X) → k < length run → ahead (slice_index_or run place d) (slice_index_or run k d) ≡ true
  pub first : (k : ℕ) (d : X) → k < place → ahead (slice_index_or run k d) (slice_index_or run place d) ≡ false
