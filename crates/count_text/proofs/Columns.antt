-- A text at the right of its columns.
use Rattle.std.proofs.Common.{◌≡◌, ℕ, zero, suc, ◌+◌, ◌-◌, ◌^◌, ◌<◌, ◌≤◌, ltb, List, ◌++◌, length, get_or, take, drop, replicate, None, decimal, Option, sym, refl, ap, ◌∙◌, add-zero, arith}
use Rattle.std.proofs.lemmas.Fmt.{length-decimal-le}
use Rattle.std.proofs.lemmas.List.{get_or-drop, length-append, length-drop, length-replicate, replicate_more, take-append-drop, take_more}
use Rattle.std.proofs.lemmas.Bool.Decides.{nat_tests}
use Rattle.count_text.specs.Columns.{at_right, count_text_of, CountIn, write_refusal, Reads}
use Rattle.count_text.proofs.Decimals.{pow_ten_le, lt_by_length}

pub length-at_right : (w : ℕ) (text : List ℕ) → length text ≤ w → length (at_right w text) ≡ w
length-at_right w text h = length-append (replicate {A = ℕ} (w - length text) 32) text ∙ (let r = length-replicate {A = ℕ} (w - length text) 32 in omega arith)

-- ---- writing
pub not_refused : (a b columns room : ℕ) → a < b → columns ≤ room → write_refusal (ltb a b) columns room ≡ None
not_refused a b columns room h k = grind (arith, nat_tests)

-- ---- reading
pub one_more_blank : (text : List ℕ) (i : ℕ) → i < length text → get_or text i 0 ≡ 32 → take i text ≡ replicate i 32 → take (i + 1) text ≡ replicate (i + 1) 32
one_more_blank text i h b is = rw (take_more text i 0 h, is, b) (replicate_more i 32)

same_split :
    (j k : ℕ) (ds es : List ℕ) → (get_or ds 0 0 ≡ 32 → ⊥) → (get_or es 0 0 ≡ 32 → ⊥) → replicate j 32 ++ ds ≡ replicate k 32 ++ es → (j ≡ k) × (ds ≡ es)
same_split zero zero ds es p q e = (refl, e)
same_split zero (suc k) ds es p q e = absurd (p (ap (λ (xs : List ℕ). get_or xs 0 0) e))
same_split (suc j) zero ds es p q e = absurd (q (sym (ap (λ (xs : List ℕ). get_or xs 0 0) e)))
same_split (suc j) (suc k) ds es p q e = let r = same_split j k ds es p q (ap (λ (xs : List ℕ). drop 1 xs) e) in (ap suc r.0, r.1)

-- a text that begins with k blanks
module _ (text : List ℕ) (k : ℕ) (le : k ≤ length text) (front : take k text ≡ replicate k 32) (next : get_or text k 0 ≡ 32 → ⊥) where
  blanks_then_rest : text ≡ replicate k 32 ++ drop k text
  blanks_then_rest = sym (take-append-drop k text) ∙ ap (λ (t : List ℕ). t ++ drop k text) front

  rest_not_blank : get_or (drop k text) 0 0 ≡ 32 → ⊥
  rest_not_blank h = next (rw (get_or-drop, add-zero) at h)

  pub same_blanks : (j : ℕ) (ds : List ℕ) → (get_or ds 0 0 ≡ 32 → ⊥) → text ≡ replicate j 32 ++ ds → k ≡ j
  same_blanks j ds begins e = (same_split k j (drop k text) ds rest_not_blank begins (sym blanks_then_rest ∙ e)).0

  -- what is read behind the blanks is read with them
  pub reads_at_right :
      {X : Type 0} (Fits : X → Type 0) (text_of : X → List ℕ) → ((x : X) → Fits x → get_or (text_of x) 0 0 ≡ 32 → ⊥) → (w : ℕ) (rest : List ℕ) (r : Option X) → length text ≡ w → rest ≡ drop k text →
      Reads (λ x t. Fits x × (t ≡ text_of x)) rest r → Reads (λ x t. Fits x × (t ≡ at_right w (text_of x))) text r
  reads_at_right Fits text_of begins w rest r long is reads =
      record {
        written_is_read = λ x h. reads.written_is_read x (h.0, is ∙ (same_split k _ (drop k text) (text_of x) rest_not_blank (begins x h.0) (sym blanks_then_rest ∙ h.1)).1);
        read_is_written = λ x e.
            let h = reads.read_is_written x e in
            let n : length (text_of x) ≡ w - k = sym (ap length h.1) ∙ ap length is ∙ length-drop k text ∙ ap (λ (l : ℕ). l - k) long in
            let j : w - length (text_of x) ≡ k = omega arith in
            (h.0, rw (j, ← h.1, is) blanks_then_rest);
      }

pub length_count : (w n : ℕ) (text : List ℕ) → 0 < w → w ≤ 18 → CountIn w n text → length text ≡ w
length_count w n text some few h =
    let small : n < 10 ^ 18 = omega (arith, pow_ten_le w 18 few, h.0) in
    ap length h.1 ∙ length-at_right w (decimal n) (length-decimal-le w n some h.0 (omega arith))

pub reads_count : (w : ℕ) (text : List ℕ) (r : Option ℕ) → w ≤ 18 → length text ≡ w → Reads (λ n t. (n < 10 ^ 18) × (t ≡ count_text_of w n)) text r → Reads (CountIn w) text r
reads_count w text r few long reads =
    record {
      written_is_read = λ n h. reads.written_is_read n (omega (arith, pow_ten_le w 18 few, h.0), h.1);
      read_is_written = λ n e.
          let h = reads.read_is_written n e in
          let l = sym (ap length h.1) ∙ long in
          (lt_by_length w n (omega arith) (omega (arith, length-append (replicate {A = ℕ} (w - length (decimal n)) 32) (decimal n))), h.1);
    }
