-- The first line of a text and the lines after it.
use Rattle.std.proofs.Common.{◌≡◌, ℕ, zero, suc, ◌+◌, ◌-◌, ◌<◌, ◌≤◌, Bool, true, false, cond, eqb, List, [], ◌∷◌, ◌++◌, length, get_or, take, drop, min, sym, refl, ap, ◌∙◌, add-one, arith}
use Rattle.std.proofs.lemmas.List.{at_drop_more, at_drop_all, drop-drop, take_rest}
use Rattle.std.proofs.Math.Seq.{drop-append_seam}
use Rattle.std.proofs.lemmas.Bool.{eq-eqb, ne_eqb, cond_both, cond-false}
use Rattle.std.specs.List.{flat_map, AllByRecursion, AllWithin, IsFirstMatchOrLen}
use Rattle.std.specs.Io.BufRead.{take_through}
use Rattle.text_parts.specs.Lines.{begun, lines_of}

-- the first LF of a text stands at i, or it has none and is i bytes long
abbrev EndsAt : List ℕ → ℕ → Type 0
EndsAt text i = IsFirstMatchOrLen (λ b. eqb b 10) text i

ends_later : (b : ℕ) (bs : List ℕ) (i : ℕ) → EndsAt (b ∷ bs) (suc i) → (eqb b 10 ≡ false) × EndsAt bs i
ends_later b bs i ends =
    let none : AllWithin (λ b. eqb b 10 ≡ false) bs 0 i = λ k d low high. ends.0 (suc k) d (omega arith) (omega arith) in
    let others : EndsAt bs i = (none, λ lt. ends.1 (omega arith)) in
    (ends.0 0 0 (omega arith) (omega arith), others)

-- the first line ends there
line_ends : (text : List ℕ) (i : ℕ) → EndsAt text i → take (suc i) text ≡ take_through 10 text
line_ends [] i ends = refl
line_ends (b ∷ bs) zero ends = rw (ends.1 (omega arith) 0)
line_ends (b ∷ bs) (suc i) ends = let later = ends_later b bs i ends in rw (later.0, line_ends bs i later.1) refl

-- and the other lines are those of what follows it
lines_follow :
    (text : List ℕ) (i : ℕ) → EndsAt text i → 0 < length text →
    lines_of text ≡ take (suc i) text ∷ lines_of (drop (suc i) text)
lines_follow [] i ends some = absurd (omega arith)
lines_follow (b ∷ bs) zero ends some = rw (ends.1 (omega arith) 0)
lines_follow (b ∷ []) (suc i) ends some = rw (ends_later b [] i ends).0
lines_follow (b ∷ c ∷ cs) (suc i) ends some =
    let later = ends_later b (c ∷ cs) i ends in
    rw (later.0, lines_follow (c ∷ cs) i later.1 (omega arith)) refl

-- so many elements from the front, or all, are a part of it, and the others are the rest
parted :
    (n : ℕ) (front rest : List ℕ) → length front ≡ min n (length (front ++ rest)) →
    (take n (front ++ rest) ≡ front) × (drop n (front ++ rest) ≡ rest)
parted zero [] rest long = (refl, refl)
parted zero (b ∷ bs) rest long = absurd (omega arith)
parted (suc n) [] [] long = (refl, refl)
parted (suc n) [] (c ∷ cs) long = absurd (omega arith)
parted (suc n) (b ∷ bs) rest long = let p = parted n bs rest (omega arith) in (ap (λ (t : List ℕ). b ∷ t) p.0, p.1)

-- a part of a text up to the first LF is its first line, and behind it stand the others
module _
    (text line rest : List ℕ) (i : ℕ) (is : text ≡ line ++ rest) (long : length line ≡ min (i + 1) (length text))
    (ends : EndsAt text i) where
  cut : (take (suc i) text ≡ line) × (drop (suc i) text ≡ rest)
  cut = rw is (parted (suc i) line rest (rw (is, add-one) at long))

  pub part_is_line : line ≡ take_through 10 text
  part_is_line = sym cut.0 ∙ line_ends text i ends

  left : take (length text - length line) (drop (length line) text) ≡ rest
  left = take_rest text (length line) ∙ rw is (drop-append_seam line rest)

  pub part_then_left : text ≡ line ++ take (length text - length line) (drop (length line) text)
  part_then_left = is ∙ ap (λ (t : List ℕ). line ++ t) (sym left)

  pub lines_then_left :
      0 < length text → lines_of text ≡ line ∷ lines_of (take (length text - length line) (drop (length line) text))
  lines_then_left some = rw (cut.0, cut.1, ← left) at (lines_follow text i ends some)

-- ---- the length of the first line, byte by byte
one_first : (t : Bool) (b : ℕ) (xs : List ℕ) → length (cond t (b ∷ []) (b ∷ xs)) ≡ suc (length (cond t [] xs))
one_first true b xs = refl
one_first false b xs = refl

module _ (text : List ℕ) (i : ℕ) where
  step :
      i < length text →
      length (take_through 10 (drop i text)) ≡ suc (length (cond (eqb (get_or text i 0) 10) [] (take_through 10 (drop (i + 1) text))))
  step lt = at_drop_more (λ (t : List ℕ). length (take_through 10 t)) text i 0 lt ∙ one_first (eqb (get_or text i 0) 10) _ _

  pub front_end : i < length text → get_or text i 0 ≡ 10 → length (take_through 10 (drop i text)) ≡ 1
  front_end lt e = let t = eq-eqb _ _ e in step lt ∙ rw t

  pub front_more :
      i < length text → (get_or text i 0 ≡ 10 → ⊥) →
      length (take_through 10 (drop i text)) ≡ length (take_through 10 (drop (i + 1) text)) + 1
  front_more lt n = let t = ne_eqb _ _ n in step lt ∙ rw t (omega arith)

  pub front_all : length text ≤ i → length (take_through 10 (drop i text)) ≡ 0
  front_all le = at_drop_all (λ (t : List ℕ). length (take_through 10 t)) text i le

-- ---- the first line as a part
begins : (t : Bool) (b : ℕ) (bs xs : List ℕ) → take (length xs) bs ≡ xs → take (length (cond t (b ∷ []) (b ∷ xs))) (b ∷ bs) ≡ cond t (b ∷ []) (b ∷ xs)
begins true b bs xs e = refl
begins false b bs xs e = ap (λ (t : List ℕ). b ∷ t) e

-- a line is the front of its text
pub line_front : (text : List ℕ) → take (length (take_through 10 text)) text ≡ take_through 10 text
line_front [] = refl
line_front (b ∷ bs) = begins (eqb b 10) b bs (take_through 10 bs) (line_front bs)

-- the part of a line's length is the line
pub line_part :
    (n : ℕ) (rest whole : List ℕ) → n ≡ length (take_through 10 rest) → rest ≡ whole →
    (take (n - 0) rest ≡ take_through 10 whole) × (length (take (n - 0) rest) ≡ n)
line_part n rest whole e f =
    let z : n - 0 ≡ length (take_through 10 rest) = omega arith in
    let t : take (n - 0) rest ≡ take_through 10 rest = rw z (line_front rest) in
    (t ∙ ap (take_through 10) f, ap length t ∙ sym e)

-- ---- one line after another
split :
    (t : Bool) (b : ℕ) (bs line : List ℕ) → lines_of bs ≡ line ∷ lines_of (drop (length line) bs) →
    cond t ((b ∷ []) ∷ lines_of bs) (begun b (lines_of bs)) ≡ cond t (b ∷ []) (b ∷ line) ∷ lines_of (drop (length (cond t (b ∷ []) (b ∷ line))) (b ∷ bs))
split true b bs line e = refl
split false b bs line e = ap (λ (ls : List (List ℕ)). begun b ls) e

alone : (t : Bool) (b : ℕ) → cond t ((b ∷ []) ∷ []) (begun b []) ≡ cond t (b ∷ []) (b ∷ []) ∷ lines_of (drop (length (cond t (b ∷ []) (b ∷ []))) (b ∷ []))
alone true b = refl
alone false b = refl

-- the lines of a text are its first one and those of what follows it
pub lines_step : (text : List ℕ) → 0 < length text → lines_of text ≡ take_through 10 text ∷ lines_of (drop (length (take_through 10 text)) text)
lines_step [] some = absurd (let q : ⊥ = omega arith in q)
lines_step (b ∷ []) some = alone (eqb b 10) b
lines_step (b ∷ (c ∷ cs)) some = split (eqb b 10) b (c ∷ cs) (take_through 10 (c ∷ cs)) (lines_step (c ∷ cs) (omega arith))

-- the text before and after a line of n bytes
pub lines_from :
    (n at next : ℕ) (rest text same line : List ℕ) → 0 < length rest → n ≡ length (take_through 10 rest) → rest ≡ drop at text → next ≡ at + n → same ≡ text →
    line ≡ take_through 10 (drop at text) → lines_of (drop at text) ≡ line ∷ lines_of (drop next same)
lines_from n at next rest text same line some e f g h is =
    let s = lines_step rest some in
    let d : drop (length (take_through 10 rest)) rest ≡ drop next same = rw (← e, f, drop-drop, g, h) in
    let t : lines_of rest ≡ take_through 10 rest ∷ lines_of (drop next same) = rw d at s in
    rw is (rw f at t)

-- a line that ends with its only LF is the first of what it begins
pub lines-first :
    (front rest : List ℕ) → AllByRecursion (λ b. b ≡ 10 → ⊥) front →
    lines_of (front ++ (10 ∷ rest)) ≡ (front ++ (10 ∷ [])) ∷ lines_of rest
lines-first [] rest none = refl
lines-first (b ∷ bs) rest none =
    cond-false (eqb b 10) _ _ (ne_eqb b 10 none.0) ∙ ap (λ (ls : List (List ℕ)). begun b ls) (lines-first bs rest none.1)

-- ---- the lines joined
begun_joined : (b : ℕ) (ls : List (List ℕ)) → flat_map (λ (l : List ℕ). l) (begun b ls) ≡ b ∷ flat_map (λ (l : List ℕ). l) ls
begun_joined b [] = refl
begun_joined b (l ∷ ls) = refl

-- the lines of a text, joined, are the text
pub lines_joined : (text : List ℕ) → flat_map (λ (l : List ℕ). l) (lines_of text) ≡ text
lines_joined [] = refl
lines_joined (b ∷ bs) =
    let more = ap (λ (t : List ℕ). b ∷ t) (lines_joined bs) in
    let joined = λ (ls : List (List ℕ)). flat_map (λ (l : List ℕ). l) ls ≡ b ∷ bs in
    cond_both (eqb b 10) ((b ∷ []) ∷ lines_of bs) (begun b (lines_of bs)) joined (λ _. more)
    (λ _. begun_joined b (lines_of bs) ∙ more)
