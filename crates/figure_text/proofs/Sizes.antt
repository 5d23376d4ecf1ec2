-- The wholes and the decimals of a size.
use Rattle.std.proofs.Common.{◌≡◌, ℕ, zero, suc, ◌+◌, ◌-◌, ◌*◌, ◌/◌, ◌%◌, ◌^◌, ◌<◌, ◌≤◌, Bool, true, false, ltb, List, ◌∷◌, ◌++◌, length, get_or, take, drop, Some, None, decimal, Option, MatchOption, sym, refl, ap, ◌∙◌, mul_assoc, pow-suc, arith}
use native.Mathlib.Nat.{sub-zero}
use Rattle.std.specs.Bool.{then_some}
use Rattle.std.proofs.lemmas.Bool.Decides.{nat_tests}
use Rattle.std.proofs.lemmas.Option.{none-some, same_Some}
use Rattle.std.proofs.lemmas.List.{drop_at, drop_more, get_or_at, length-append, length-drop, take-append-drop, take_at, take_rest}
use Rattle.count_text.specs.Columns.{last_digits, PlainIn, FixedIn, Reads}
use Rattle.count_text.proofs.LastDigits.{length_last}
use Rattle.count_text.proofs.Readers.{reads_none, reads_some}
use Rattle.figure_text.specs.Figures.{size_text, SizeIn}

same_last : (w a q : ℕ) → last_digits w (a * 10 ^ w + q) ≡ last_digits w q
unfolding last_digits
same_last zero a q = refl
same_last (suc w) a q =
    let m : a * 10 ^ suc w ≡ a * 10 ^ w * 10 = rw pow-suc (sym (mul_assoc a (10 ^ w) 10)) in
    let d : (a * 10 ^ suc w + q) / 10 ≡ a * 10 ^ w + q / 10 = omega arith in
    let r : (a * 10 ^ suc w + q) % 10 ≡ q % 10 = omega arith in
    rw (d, r, same_last w a (q / 10))

length_size : (n : ℕ) → length (size_text n) ≡ length (decimal (n / 10 ^ 10)) + 11
length_size n = length-append (decimal (n / 10 ^ 10)) (46 ∷ last_digits 10 n) ∙ (let l = length_last 10 n in omega arith)

pub no_size_in_short : (text : List ℕ) → length text < 11 → Reads SizeIn text None
no_size_in_short text short = reads_none SizeIn text (λ n h. omega (arith, ap length h.1, length_size n))

-- a whole of at most eight digits
abbrev pub WholeIn : ℕ → List ℕ → Type 0
WholeIn a text = (a < 10 ^ 8) × (text ≡ decimal a)

-- it is read where a number is, and passes the test
pub reads_whole :
    (Says : ℕ → Bool → Type 0) → ((a : ℕ) (b : Bool) → Says a b → b ≡ ltb a (10 ^ 8)) → (text : List ℕ) (o r : Option ℕ) → Reads PlainIn text o →
    MatchOption o (r ≡ None) (λ a. (b : Bool) × Says a b × (r ≡ then_some b a)) → Reads WholeIn text r
reads_whole Says says text None r reads e = rw e (reads_none WholeIn text (λ a h. none-some _ (reads.written_is_read a (omega (arith, h.0), h.1))))
reads_whole Says says text (Some a) r reads (true, s, e) =
    let small : a < 10 ^ 8 = grind (arith, nat_tests, says a true s) in
    rw e (reads_some WholeIn text a (small, (reads.read_is_written a refl).1) (λ x h. sym (same_Some _ _ (reads.written_is_read x (omega (arith, h.0), h.1)))))
reads_whole Says says text (Some a) r reads (false, s, e) =
    rw e (reads_none WholeIn text (λ x h. let v : a ≡ x = same_Some _ _ (reads.written_is_read x (omega (arith, h.0), h.1)) in grind (arith, nat_tests, says a false s, h.0)))

-- a text that is cut where a point leaves ten columns behind it
module _ (text whole behind : List ℕ) (p : ℕ) (front : whole ≡ take p text) (back : behind ≡ drop p text) (long : length behind ≡ 11) where
  -- the text of a size
  module _ (n : ℕ) (h : SizeIn n text) where
    length_whole : length (decimal (n / 10 ^ 10)) ≡ p
    length_whole = omega (arith, ap length h.1, length_size n, ap length back, length-drop p text)

    whole_before : WholeIn (n / 10 ^ 10) whole
    whole_before = (omega (arith, h.0), front ∙ ap (take p) h.1 ∙ take_at (decimal (n / 10 ^ 10)) (46 ∷ last_digits 10 n) p length_whole)

    point_behind : behind ≡ 46 ∷ last_digits 10 n
    point_behind = back ∙ ap (drop p) h.1 ∙ drop_at (decimal (n / 10 ^ 10)) (46 ∷ last_digits 10 n) p length_whole

  pub no_size_without_whole : Reads WholeIn whole None → Reads SizeIn text None
  no_size_without_whole reads = reads_none SizeIn text (λ n h. none-some _ (reads.written_is_read _ (whole_before n h)))

  pub no_size_without_point : ((rest : List ℕ) → behind ≡ 46 ∷ rest → ⊥) → Reads SizeIn text None
  no_size_without_point never = reads_none SizeIn text (λ n h. never _ (point_behind n h))

  module _ (decimals : List ℕ) (point : behind ≡ 46 ∷ decimals) where
    decimals_behind : (n : ℕ) → SizeIn n text → FixedIn (n % 10 ^ 10) decimals
    decimals_behind n h =
        let m : n / 10 ^ 10 * 10 ^ 10 + n % 10 ^ 10 ≡ n = omega arith in
        let e : decimals ≡ last_digits 10 n = let f : 46 ∷ decimals ≡ 46 ∷ last_digits 10 n = sym point ∙ point_behind n h in cc in
        let l : length decimals ≡ 10 = omega (arith, ap length point) in
        rw l (omega arith, omega arith, omega arith, e ∙ (rw m at (same_last 10 (n / 10 ^ 10) (n % 10 ^ 10))))

    pub no_size_without_decimals : Reads FixedIn decimals None → Reads SizeIn text None
    no_size_without_decimals reads = reads_none SizeIn text (λ n h. none-some _ (reads.written_is_read _ (decimals_behind n h)))

    -- both parts are read
    module _ (a q : ℕ) (wholes : Reads WholeIn whole (Some a)) (part : Reads FixedIn decimals (Some q)) where
      fixed : (q < 10 ^ 10) × (decimals ≡ last_digits 10 q)
      fixed =
          let h = part.read_is_written q refl in
          let l : length decimals ≡ 10 = omega (arith, ap length point) in
          (rw l at h.2, rw l at h.3)

      pub decimals_lt : q < 10 ^ 10
      decimals_lt = fixed.0

      size_is : (n : ℕ) → SizeIn n text → n ≡ a * 10 ^ 10 + q
      size_is n h =
          let v : a ≡ n / 10 ^ 10 = same_Some _ _ (wholes.written_is_read _ (whole_before n h)) in
          let u : q ≡ n % 10 ^ 10 = same_Some _ _ (part.written_is_read _ (decimals_behind n h)) in
          omega arith

      pub reads_size : Reads SizeIn text (Some (a * 10 ^ 10 + q))
      reads_size =
          let n = a * 10 ^ 10 + q in
          let w = wholes.read_is_written a refl in
          let v : n / 10 ^ 10 ≡ a = omega (arith, fixed.0) in
          let t : text ≡ decimal a ++ 46 ∷ last_digits 10 q = sym (take-append-drop p text) ∙ rw (← front, ← back, w.1, point, fixed.1) in
          let e : text ≡ size_text n = rw (v, same_last 10 a q) t in
          reads_some SizeIn text n (omega (arith, w.0, fixed.0), e) size_is

-- what stands before the point at p, and behind it
abbrev before : List ℕ → ℕ → List ℕ
before text p = take (p - 0) text

abbrev behind : List ℕ → ℕ → List ℕ
behind text p = take (length text - (p + 1)) (drop (p + 1) text)

module _ (text : List ℕ) (p : ℕ) (long : length text ≡ p + 11) where
  length_left : length (drop p text) ≡ 11
  length_left = omega (arith, length-drop p text)

  length_behind : length (behind text p) ≡ 10
  length_behind = omega (arith, ap length (take_rest text (p + 1)), length-drop (p + 1) text)

  -- the text of a size
  module _ (n : ℕ) (h : SizeIn n text) where
    pub point_at : get_or text p 0 ≡ 46
    point_at =
        ap (λ (t : List ℕ). get_or t p 0) h.1
        ∙ get_or_at (decimal (n / 10 ^ 10)) 46 (last_digits 10 n) 0 p (length_whole text (take p text) (drop p text) p refl refl length_left n h)

    plain_before : PlainIn (n / 10 ^ 10) (before text p)
    plain_before =
        let w = whole_before text (take p text) (drop p text) p refl refl length_left n h in
        (omega (arith, w.0), ap (λ (k : ℕ). take k text) (sub-zero p) ∙ w.1)

    part_behind : FixedIn (n % 10 ^ 10) (behind text p)
    part_behind =
        let e : drop p text ≡ 46 ∷ behind text p = drop_more text p 0 (omega arith) ∙ rw (point_at, take_rest text (p + 1)) in
        decimals_behind text (take p text) (drop p text) p refl refl length_left (behind text p) e n h

  pub no_size_without_part : Reads FixedIn (behind text p) None → Reads SizeIn text None
  no_size_without_part reads = reads_none SizeIn text (λ n h. none-some _ (reads.written_is_read _ (part_behind n h)))

  -- both parts are read
  module _ (a q : ℕ) (whole : Reads PlainIn (before text p) (Some a)) (part : Reads FixedIn (behind text p) (Some q)) where
    pub part_lt : q < 10 ^ 10
    part_lt = rw length_behind at (part.read_is_written q refl).2

    pub no_size_of_nine_digits : 10 ^ 8 ≤ a → Reads SizeIn text None
    no_size_of_nine_digits wide =
        reads_none SizeIn text (λ n h. let v : a ≡ n / 10 ^ 10 = same_Some _ _ (whole.written_is_read _ (plain_before n h)) in omega (arith, h.0))
