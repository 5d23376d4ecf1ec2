-- A text that is written part by part: what is written so far stands before the rest of what a buffer held.
use Rattle.std.proofs.Common.{◌≡◌, ℕ, ◌+◌, ◌-◌, ◌<◌, ◌≤◌, List, [], ◌∷◌, ◌++◌, length, get_or, take, drop, set, None, Option, ◌∙◌, arith}
use borrow.Rule.Slice.PartMut.{put_mid}
use Rattle.std.proofs.lemmas.List.{append_assoc, append-nil, drop_all, drop_at, drop-drop, drop_more, length-drop, length-take-le, set_at, take_at}
use Rattle.count_text.specs.Columns.{bytes_after}

module _ (front old now : List ℕ) (m : ℕ) (long : length front ≡ m) (is : now ≡ front ++ drop m old) where
  -- one part more
  pub put_next : (p : ℕ) (text : List ℕ) → length text ≡ p → put_mid m p now text ≡ (front ++ text) ++ drop (m + p) old
  put_next p text size = rw (is, take_at front (drop m old) m long, drop_at front (drop m old) m long, drop-drop p m old) (simp append_assoc)

  -- the same up to e
  pub put_to : (e : ℕ) (text : List ℕ) → m ≤ e → length text ≡ e - m → put_mid m (e - m) now text ≡ (front ++ text) ++ drop e old
  put_to e text le size = let s : m + (e - m) ≡ e = omega arith in rw s at (put_next (e - m) text size)

  -- one byte more
  pub set_next : (b : ℕ) → m < length old → set now m b ≡ (front ++ (b ∷ [])) ++ drop (m + 1) old
  set_next b lt = rw (is, drop_more old m 0 lt, set_at front (get_or old m 0) (drop (m + 1) old) b m long) (simp append_assoc)

-- a text over a part that is as long as it
pub part_written : (refusal : Option ℕ) (text part new : List ℕ) → refusal ≡ None → length part ≡ length text → new ≡ bytes_after refusal text part → new ≡ text
part_written refusal text part new none long e =
    let w : new ≡ text ++ drop (length text) part = rw none at e in
    w ∙ rw (drop_all (length text) part (omega arith), append-nil)

-- the length of a part from m to e
pub part_length : (m e : ℕ) (l : List ℕ) → m ≤ e → e ≤ length l → length (take (e - m) (drop m l)) ≡ e - m
part_length m e l le room = length-take-le (e - m) (drop m l) (omega (arith, length-drop m l))
