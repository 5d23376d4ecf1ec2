-- What is read is what was written.
use Rattle.std.proofs.Common.{◌≡◌, ℕ, ◌+◌, ◌*◌, ◌^◌, ◌<◌, ◌≤◌, List, length, get_or, take, Some, None, Ok, decimal, Option, Result, sym, refl, ap, ◌∙◌, arith}
use Rattle.std.specs.Option.{ok_or}
use Rattle.std.specs.Result.{result_ok}
use Rattle.std.specs.Str.Parse.{AllDigits, digits_value}
use Rattle.std.proofs.lemmas.Int.Digits.{digits_more, digits_value_more, digits_value-lt}
use Rattle.std.proofs.lemmas.Fmt.{decimal_nonempty, decimal-digits_value, length-decimal-le}
use Rattle.std.proofs.lemmas.List.{length-take-le}
use Rattle.std.proofs.lemmas.Str.Parse.{IsNumeralModel, numerals_by_value, tells_digits}
use Rattle.quantity.specs.declared.refusal.Refusal.{Refusal}
use Rattle.quantity.specs.declared.refusal.Refusal.TheVariants.{NotInForm}
use Rattle.count_text.specs.Columns.{PlainIn, FixedIn, Reads, RefusesBy}
use Rattle.count_text.proofs.Decimals.{no_needless_zero, pow_ten_le, lt_by_length}
use Rattle.count_text.proofs.LastDigits.{digit_value_is, last_are_digits, value_last, digits_are_last, decimal_is_last}

pub reads_none : {X : Type 0} (Has : X → List ℕ → Type 0) (text : List ℕ) → ((x : X) → Has x text → ⊥) → Reads Has text None
reads_none Has text never =
    record {
      written_is_read = λ x h. absurd (never x h);
      read_is_written = λ x e. let z : ◌≡◌ {A = ℕ} 0 1 = cc in absurd (let q : ⊥ = omega arith in q);
    }

pub reads_some : {X : Type 0} (Has : X → List ℕ → Type 0) (text : List ℕ) (v : X) → Has v text → ((x : X) → Has x text → x ≡ v) → Reads Has text (Some v)
reads_some Has text v h one = record { written_is_read = λ x g. ap Some (sym (one x g)); read_is_written = λ x e. let s : v ≡ x = cc in rw s at h }

-- ---- a reader that refuses a text where there is nothing to read
ok_part_ok_or : {X : Type 0} (o : Option X) → result_ok (ok_or o NotInForm) ≡ o
ok_part_ok_or None = refl
ok_part_ok_or (Some x) = refl

refused_ok_or : {X : Type 0} (o : Option X) → RefusesBy 17 (ok_or o NotInForm)
refused_ok_or None = refl
refused_ok_or (Some x) = tt

module _ {X : Type 0} (Has : X → List ℕ → Type 0) (text : List ℕ) (o : Option X) (r : Result X Refusal) (is : r ≡ ok_or o NotInForm) (reads : Reads Has text o) where
  pub ok_where_written : (x : X) → Has x text → r ≡ Ok x
  ok_where_written x h = is ∙ ap (λ (v : Option X). ok_or v NotInForm) (reads.written_is_read x h)

  pub written_where_ok : (x : X) → r ≡ Ok x → Has x text
  written_where_ok x e = reads.read_is_written x (sym (ok_part_ok_or o) ∙ ap result_ok (sym is ∙ e))

  pub else_refused : RefusesBy 17 r
  else_refused = rw is (refused_ok_or o)

-- ---- one digit more is read
module _ (ds : List ℕ) (i n : ℕ) (here : i < length ds) (all : AllDigits 10 (take i ds)) (is : n ≡ digits_value 10 (take i ds)) where
  pub value_fits : length ds ≤ 18 → n < 10 ^ 17
  value_fits few =
      let l : length (take i ds) ≡ i = length-take-le i ds (omega arith) in
      let v : digits_value 10 (take i ds) < 10 ^ i = rw l at (digits_value-lt 10 (take i ds) all) in
      omega (arith, pow_ten_le i 17 (omega arith))

  pub digit_read : (d : ℕ) → d < 10 → get_or ds i 0 ≡ 48 + d → AllDigits 10 (take (i + 1) ds) × (n * 10 + d ≡ digits_value 10 (take (i + 1) ds))
  digit_read d small byte =
      let v = digit_value_is (get_or ds i 0) (omega arith) (omega arith) in
      (digits_more 10 ds i here all (omega arith), omega (arith, digits_value_more 10 ds i here))

-- ---- digits after zeros
module _ (ds : List ℕ) (n : ℕ) (fixed : FixedIn n ds) where
  pub fixed_are_digits : AllDigits 10 ds
  fixed_are_digits = rw fixed.3 (last_are_digits (length ds) n)

  value_fixed : digits_value 10 ds ≡ n
  value_fixed = ap (digits_value 10) fixed.3 ∙ value_last (length ds) n fixed.2

pub reads_fixed : (ds : List ℕ) (n : ℕ) → 0 < length ds → length ds ≤ 18 → AllDigits 10 ds → n ≡ digits_value 10 ds → Reads FixedIn ds (Some n)
reads_fixed ds n some few all is =
    reads_some FixedIn ds n (rw is (some, few, digits_value-lt 10 ds all, digits_are_last ds all)) (λ x h. sym (value_fixed ds x h) ∙ sym is)

-- ---- digits with no needless zero
numerals : IsNumeralModel (AllDigits 10) (digits_value 10)
numerals = numerals_by_value (AllDigits 10) tells_digits

module _ (ds : List ℕ) (n : ℕ) (plain : PlainIn n ds) where
  pub plain_zero_alone : get_or ds 0 0 ≡ 48 → length ds ≡ 1
  plain_zero_alone = rw plain.1 (no_needless_zero n (omega arith))

  plain_is_fixed : FixedIn n ds
  plain_is_fixed =
      let l : length (decimal n) ≤ 18 = length-decimal-le 18 n (omega arith) plain.0 (omega arith) in
      rw plain.1 (decimal_nonempty n (omega arith), l, lt_by_length (length (decimal n)) n (omega arith) (omega arith), decimal_is_last n (omega arith))

fixed_is_plain : (ds : List ℕ) (n : ℕ) → FixedIn n ds → (get_or ds 0 0 ≡ 48 → length ds ≤ 1) → PlainIn n ds
fixed_is_plain ds n fixed alone =
    let v = value_fixed ds n fixed in
    let small : n < 10 ^ 18 = omega (arith, pow_ten_le (length ds) 18 fixed.1, fixed.2) in
    (small, rw v at (sym (decimal-digits_value numerals ds (fixed_are_digits ds n fixed) fixed.0 (λ h. omega (arith, alone h, fixed.0)) (omega arith))))

pub reads_plain : (ds : List ℕ) (r : Option ℕ) → (get_or ds 0 0 ≡ 48 → length ds ≤ 1) → Reads FixedIn ds r → Reads PlainIn ds r
reads_plain ds r alone reads =
    record {
      written_is_read = λ n h. reads.written_is_read n (plain_is_fixed ds n h);
      read_is_written = λ n e. fixed_is_plain ds n (reads.read_is_written n e) alone;
    }
