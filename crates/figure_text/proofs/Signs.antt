-- The sign of a figure.
use Rattle.std.proofs.Common.{◌≡◌, ℕ, zero, suc, ◌/◌, ◌^◌, ◌<◌, ◌≤◌, List, ◌∷◌, get_or, ℤ, pos, negsuc, neg_ℤ, nat_abs, Some, None, decimal, Option, sym, refl, ap, ◌∙◌, arith, MatchOption}
use Rattle.std.proofs.lemmas.Fmt.{decimal_nonempty}
use Rattle.std.proofs.lemmas.List.{get_or_append_left}
use Rattle.std.proofs.lemmas.Option.{none-some, same_Some}
use Rattle.count_text.specs.Columns.{last_digits, Reads}
use Rattle.count_text.proofs.Decimals.{first_is_digit}
use Rattle.count_text.proofs.Readers.{reads_none, reads_some}
use Rattle.figure_text.specs.Figures.{size_text, signed_text, SizeIn, SignedIn}

size_begins_with_digit : (n : ℕ) → n < 10 ^ 18 → 48 ≤ get_or (size_text n) 0 0
size_begins_with_digit n h =
    let s = decimal_nonempty (n / 10 ^ 10) (omega arith) in
    omega (arith, get_or_append_left (decimal (n / 10 ^ 10)) (46 ∷ last_digits 10 n) 0 0 s, first_is_digit (n / 10 ^ 10) (omega arith))

pub signed_begins_with_no_blank : (x : ℤ) → nat_abs x < 10 ^ 18 → get_or (signed_text x) 0 0 ≡ 32 → ⊥
signed_begins_with_no_blank (pos n) h e = omega (arith, size_begins_with_digit n h)
signed_begins_with_no_blank (negsuc n) h e = omega arith

-- a text that begins with a minus
module _ (text size : List ℕ) (is : text ≡ 45 ∷ size) where
  negative_with_size : (x : ℤ) → SignedIn x text → (n : ℕ) × (x ≡ negsuc n) × SizeIn (suc n) size
  negative_with_size (pos n) h =
      let e : 45 ≡ get_or (size_text n) 0 0 = ap (λ (t : List ℕ). get_or t 0 0) (sym is ∙ h.1) in
      absurd (let q : ⊥ = omega (arith, size_begins_with_digit n h.0) in q)
  negative_with_size (negsuc n) h =
      let e : 45 ∷ size ≡ 45 ∷ size_text (suc n) = sym is ∙ h.1 in
      let rest : size ≡ size_text (suc n) = cc in
      (n, refl, (h.0, rest))

  pub no_figure_behind_minus : Reads SizeIn size None → Reads SignedIn text None
  no_figure_behind_minus reads = reads_none SignedIn text (λ x h. let m = negative_with_size x h in none-some _ (reads.written_is_read _ m.2))

  no_minus_zero : (n : ℕ) → Reads SizeIn size (Some n) → n ≡ 0 → Reads SignedIn text None
  no_minus_zero n reads z = reads_none SignedIn text (λ x h. let m = negative_with_size x h in omega (arith, same_Some _ _ (reads.written_is_read _ m.2)))

  reads_negative : (n : ℕ) → Reads SizeIn size (Some n) → (n ≡ 0 → ⊥) → Reads SignedIn text (Some (neg_ℤ (pos n)))
  reads_negative zero reads some = absurd (some refl)
  reads_negative (suc n) reads some =
      let p = reads.read_is_written (suc n) refl in
      reads_some SignedIn text (negsuc n) (p.0, is ∙ ap (λ (t : List ℕ). 45 ∷ t) p.1)
      (λ x h. let m = negative_with_size x h in let e : suc n ≡ suc m.0 = same_Some _ _ (reads.written_is_read _ m.2) in m.1 ∙ ap negsuc (let q : m.0 ≡ n = omega arith in q))

  -- zero has no minus
  pub reads_behind_minus : (n : ℕ) (r : Option ℤ) → Reads SizeIn size (Some n) → MatchOption r (n ≡ 0) (λ x. (0 < n) × (x ≡ neg_ℤ (pos n))) → Reads SignedIn text r
  reads_behind_minus n None reads z = no_minus_zero n reads z
  reads_behind_minus n (Some x) reads is = rw is.1 (reads_negative n reads (λ z. omega (arith, is.0)))

-- a text that begins with no minus
module _ (text : List ℕ) (other : (rest : List ℕ) → text ≡ 45 ∷ rest → ⊥) where
  positive_with_size : (x : ℤ) → SignedIn x text → (n : ℕ) × (x ≡ pos n) × SizeIn n text
  positive_with_size (pos n) h = (n, refl, h)
  positive_with_size (negsuc n) h = absurd (other _ h.1)

  pub reads_positive : (n : ℕ) → Reads SizeIn text (Some n) → Reads SignedIn text (Some (pos n))
  reads_positive n reads =
      reads_some SignedIn text (pos n) (reads.read_is_written n refl)
      (λ x h. let m = positive_with_size x h in m.1 ∙ ap pos (sym (same_Some _ _ (reads.written_is_read _ m.2))))
