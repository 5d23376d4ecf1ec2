-- An opening line and its fields.
use Rattle.std.proofs.Common.{◌≡◌, ℕ, zero, suc, ◌^◌, ◌<◌, ◌≤◌, true, false, ◌&&◌, ◌||◌, eqb, leb, List, [], ◌∷◌, ◌++◌, length, get_or, take, drop, set, is_some, IfSome, Some, None, Option, Ok, Err, Result, sym, refl, ap, ◌∙◌, arith, MatchOption}
use mathlib.Core.HLevel.{is_prop→PathP}
use native.Mathlib.Bridge.{le_prop}
use borrow.Rule.Slice.PartMut.{put_mid}
use Rattle.std.proofs.lemmas.List.{append_assoc, take_at, drop_at, drop-drop, take-append-drop, drop_all, drop_more, get_or-drop, length-append, length-drop, length-set}
use Rattle.std.specs.Result.{result_ok}
use Rattle.std.proofs.lemmas.Bool.{and_from, and_left, and_right, le-leb, lt-leb, ne_eqb, or_from}
use Rattle.count_text.specs.Columns.{count_text_of, CountIn, count_refusal, bytes_after}
use Rattle.count_text.specs.Forms.{is_count}
use Rattle.count_text.proofs.Columns.{length_count}
use Rattle.count_text.proofs.Forms.{count_number, is_count_lem, is_not_count}
use Rattle.line_text.specs.NumberedRows.{is_whole}
use Rattle.line_text.proofs.NumberedRows.{is_whole_lem, whole_parts}
use Rattle.line_text.proofs.Puts.{put_next, set_next, count_put, part_length}
use Rattle.quantity.specs.declared.refusal.Refusal.{Refusal}
use Rattle.quantity.specs.declared.up_to.UpTo.{UpTo}
use Rattle.statement_lines.specs.declared.day_length.DayLength.{DayLength}
use Rattle.statement_lines.specs.declared.day_length.DayLength.TheVariants.{Short, Ordinary, Long}
use Rattle.statement_lines.specs.declared.opening.Opening.{Opening}
use Rattle.statement_lines.specs.Openings.{quarter_hours_of, OtherLength, behind_letter, opening_text, is_up_to, is_day_length, opening_fault}

-- ---- what was read of a count, with or without its refusal
ok_none : (r : Result ℕ Refusal) → result_ok r ≡ None → (n : ℕ) → r ≡ Ok n → ⊥
ok_none (Ok m) none n is = let z : ◌≡◌ {A = ℕ} 0 1 = cc in omega arith
ok_none (Err why) none n is = let z : ◌≡◌ {A = ℕ} 0 1 = cc in omega arith

pub ok_some : (r : Result ℕ Refusal) (n : ℕ) → result_ok r ≡ Some n → r ≡ Ok n
ok_some (Ok m) n is = cc
ok_some (Err why) n is = absurd (let z : ◌≡◌ {A = ℕ} 0 1 = cc in omega arith)

pub count_none : (w : ℕ) (text : List ℕ) (r : Result ℕ Refusal) → ((n : ℕ) → CountIn w n text → r ≡ Ok n) → result_ok r ≡ None → is_count w text ≡ false
count_none w text r read none = is_not_count w text (λ n h. ok_none r none n (read n h))

-- ---- a field and the value that it writes
up_to_lem : (most w n : ℕ) (text : List ℕ) → w ≤ 18 → 0 < n → n ≤ most → CountIn w n text → is_up_to most w text ≡ true
up_to_lem most w n text few some small h = and_from (is_count w text) _ (is_count_lem w n text few h) (rw (count_number w n text few h) (and_from _ _ (le-leb 1 n some) (le-leb n most small)))

not_up_to : (most n : ℕ) → (0 < n → n ≤ most → ⊥) → (leb 1 n && leb n most) ≡ false
not_up_to most zero h = and_left (leb 1 0) (leb 0 most) (lt-leb 1 0 (omega arith))
not_up_to most (suc n) h = and_right (leb 1 (suc n)) (leb (suc n) most) (lt-leb (suc n) most (grind (arith, h)))

pub up_to_read :
    (most w n : ℕ) (text : List ℕ) (r : Option (UpTo most)) → w ≤ 18 → CountIn w n text → MatchOption r (0 < n → n ≤ most → ⊥) (λ u. u.number ≡ n) → (is_some r ≡ is_up_to most w text) × IfSome r (λ u. CountIn w u.number text)
up_to_read most w n text None few h other = (sym (and_right (is_count w text) _ (rw (count_number w n text few h) (not_up_to most n other))), tt)
up_to_read most w n text (Some u) few h e = let g = rw (sym e) at h in (sym (up_to_lem most w u.number text few u.some u.most g), g)

among : (l : DayLength) → (eqb (quarter_hours_of l) 92 || (eqb (quarter_hours_of l) 96 || eqb (quarter_hours_of l) 100)) ≡ true
among Short = refl
among Ordinary = refl
among Long = refl

is_day_length_lem : (l : DayLength) (text : List ℕ) → CountIn 3 (quarter_hours_of l) text → is_day_length text ≡ true
is_day_length_lem l text h = and_from (is_count 3 text) _ (is_count_lem 3 (quarter_hours_of l) text (omega arith) h) (rw (count_number 3 (quarter_hours_of l) text (omega arith) h) (among l))

pub day_length_read :
    (n : ℕ) (text : List ℕ) (r : Option DayLength) → CountIn 3 n text → MatchOption r (OtherLength n) (λ l. quarter_hours_of l ≡ n) → (is_some r ≡ is_day_length text) × IfSome r (λ l. CountIn 3 (quarter_hours_of l) text)
day_length_read n text None h other =
    let a : eqb n 92 ≡ false = ne_eqb n 92 (λ e. other Short (sym e)) in
    let b : eqb n 96 ≡ false = ne_eqb n 96 (λ e. other Ordinary (sym e)) in
    let c : eqb n 100 ≡ false = ne_eqb n 100 (λ e. other Long (sym e)) in
    (sym (and_right (is_count 3 text) _ (rw (count_number 3 n text (omega arith) h) (or_from _ _ a (or_from _ _ b c)))), tt)
day_length_read n text (Some l) h e = let g = rw (sym e) at h in (sym (is_day_length_lem l text g), g)

-- ---- from an opening to its fields
pub same_up_to : {most : ℕ} (a b : UpTo most) → a.number ≡ b.number → a ≡ b
same_up_to {most} a b e i =
    record { number = e i; some = is_prop→PathP (λ j. 0 < e j) (λ j. le_prop) a.some b.some i; most = is_prop→PathP (λ j. e j ≤ most) (λ j. le_prop) a.most b.most i }

same_day_length : (a b : DayLength) → quarter_hours_of a ≡ quarter_hours_of b → a ≡ b
same_day_length Short Short e = refl
same_day_length Short Ordinary e = absurd (let q : ⊥ = omega arith in q)
same_day_length Short Long e = absurd (let q : ⊥ = omega arith in q)
same_day_length Ordinary Short e = absurd (let q : ⊥ = omega arith in q)
same_day_length Ordinary Ordinary e = refl
same_day_length Ordinary Long e = absurd (let q : ⊥ = omega arith in q)
same_day_length Long Short e = absurd (let q : ⊥ = omega arith in q)
same_day_length Long Ordinary e = absurd (let q : ⊥ = omega arith in q)
same_day_length Long Long e = refl

small_length : (l : DayLength) → quarter_hours_of l < 10 ^ 3
small_length Short = omega arith
small_length Ordinary = omega arith
small_length Long = omega arith

module _ (o : Opening) where
  day_count : CountIn 6 o.day.number (count_text_of 6 o.day.number)
  day_count = let most = o.day.most in (omega arith, refl)

  length_counted : CountIn 3 (quarter_hours_of o.length) (count_text_of 3 (quarter_hours_of o.length))
  length_counted = (small_length o.length, refl)

  group_counted : CountIn 1 o.groups.number (count_text_of 1 o.groups.number)
  group_counted = let most = o.groups.most in (omega arith, refl)

  day_long : length (count_text_of 6 o.day.number) ≡ 6
  day_long = length_count 6 o.day.number _ (omega arith) (omega arith) day_count

  length_long : length (count_text_of 3 (quarter_hours_of o.length)) ≡ 3
  length_long = length_count 3 (quarter_hours_of o.length) _ (omega arith) (omega arith) length_counted

  groups_long : length (count_text_of 1 o.groups.number) ≡ 1
  groups_long = length_count 1 o.groups.number _ (omega arith) (omega arith) group_counted

  module _ (line : List ℕ) (is : drop 1 line ≡ behind_letter o) where
    past_day : drop 7 line ≡ count_text_of 3 (quarter_hours_of o.length) ++ (count_text_of 1 o.groups.number ++ (10 ∷ []))
    past_day = sym (drop-drop 6 1 line) ∙ ap (λ (l : List ℕ). drop 6 l) is ∙ drop_at (count_text_of 6 o.day.number) _ 6 day_long

    past_length : drop 10 line ≡ count_text_of 1 o.groups.number ++ (10 ∷ [])
    past_length = sym (drop-drop 3 7 line) ∙ ap (λ (l : List ℕ). drop 3 l) past_day ∙ drop_at (count_text_of 3 (quarter_hours_of o.length)) _ 3 length_long

    past_groups : drop 11 line ≡ 10 ∷ []
    past_groups = sym (drop-drop 1 10 line) ∙ ap (λ (l : List ℕ). drop 1 l) past_length ∙ drop_at (count_text_of 1 o.groups.number) _ 1 groups_long

    day_field : CountIn 6 o.day.number (take 6 (drop 1 line))
    day_field = (day_count.0, ap (λ (l : List ℕ). take 6 l) is ∙ take_at (count_text_of 6 o.day.number) _ 6 day_long)

    pub length_field : CountIn 3 (quarter_hours_of o.length) (take 3 (drop 7 line))
    length_field = (small_length o.length, ap (λ (l : List ℕ). take 3 l) past_day ∙ take_at (count_text_of 3 (quarter_hours_of o.length)) _ 3 length_long)

    groups_field : CountIn 1 o.groups.number (take 1 (drop 10 line))
    groups_field = (group_counted.0, ap (λ (l : List ℕ). take 1 l) past_length ∙ take_at (count_text_of 1 o.groups.number) _ 1 groups_long)

    opening_whole : is_whole 12 line ≡ true
    opening_whole =
        let l = ap length past_groups in
        let d = length-drop 11 line in
        let g : get_or (drop 11 line) 0 0 ≡ 10 = rw past_groups refl in
        is_whole_lem 12 line (omega arith) (sym (get_or-drop 11 line 0 0) ∙ g)

    pub opening_clear : opening_fault line ≡ None
    opening_clear =
        let a = opening_whole in
        let b = up_to_lem 999999 6 o.day.number (take 6 (drop 1 line)) (omega arith) o.day.some o.day.most day_field in
        let c = is_day_length_lem o.length (take 3 (drop 7 line)) length_field in
        let d = up_to_lem 8 1 o.groups.number (take 1 (drop 10 line)) (omega arith) o.groups.some o.groups.most groups_field in
        rw (a, b, c, d)

-- ---- from its fields to an opening
pub opening_of_fields :
    (o : Opening) (line : List ℕ) → is_whole 12 line ≡ true → CountIn 6 o.day.number (take 6 (drop 1 line)) → CountIn 3 (quarter_hours_of o.length) (take 3 (drop 7 line)) → CountIn 1 o.groups.number (take 1 (drop 10 line)) →
    line ≡ get_or line 0 0 ∷ behind_letter o
opening_of_fields o line whole day hours groups =
    let p = whole_parts 12 line whole in
    let end : drop 11 line ≡ 10 ∷ [] = drop_more line 11 0 (omega (arith, p.0)) ∙ rw (p.1, drop_all 12 line (omega (arith, p.0))) in
    let d10 : drop 10 line ≡ count_text_of 1 o.groups.number ++ (10 ∷ []) = sym (take-append-drop 1 (drop 10 line)) ∙ rw (groups.1, drop-drop 1 10 line, end) in
    let d7 : drop 7 line ≡ count_text_of 3 (quarter_hours_of o.length) ++ (count_text_of 1 o.groups.number ++ (10 ∷ [])) = sym (take-append-drop 3 (drop 7 line)) ∙ rw (hours.1, drop-drop 3 7 line, d10) in
    let d1 : drop 1 line ≡ behind_letter o = sym (take-append-drop 6 (drop 1 line)) ∙ rw (day.1, drop-drop 6 1 line, d7) in
    drop_more line 0 0 (omega (arith, p.0)) ∙ rw d1

-- ---- a line is one opening at most
pub same_opening : (o p : Opening) (line : List ℕ) → drop 1 line ≡ behind_letter o → drop 1 line ≡ behind_letter p → o ≡ p
same_opening o p line h g =
    let day = same_up_to o.day p.day (sym (count_number 6 _ _ (omega arith) (day_field o line h)) ∙ count_number 6 _ _ (omega arith) (day_field p line g)) in
    let hours = same_day_length o.length p.length (sym (count_number 3 _ _ (omega arith) (length_field o line h)) ∙ count_number 3 _ _ (omega arith) (length_field p line g)) in
    let groups = same_up_to o.groups p.groups (sym (count_number 1 _ _ (omega arith) (groups_field o line h)) ∙ count_number 1 _ _ (omega arith) (groups_field p line g)) in
    let a : UpTo 999999 → Opening = λ x. record { day = x; length = o.length; groups = o.groups } in
    let b : DayLength → Opening = λ x. record { day = p.day; length = x; groups = o.groups } in
    let c : UpTo 8 → Opening = λ x. record { day = p.day; length = p.length; groups = x } in
    ap a day ∙ ap b hours ∙ ap c groups

-- ---- written part by part
regrouped : (a b c d : List ℕ) → (((68 ∷ a) ++ b) ++ c) ++ d ≡ 68 ∷ (a ++ (b ++ (c ++ d)))
regrouped a b c d = simp append_assoc

module _ (o : Opening) (old day hours groups : List ℕ) (room : 12 ≤ length old)
    (dayed : day ≡ bytes_after (count_refusal 6 o.day.number (length (take 6 (drop 1 (set old 0 68))))) (count_text_of 6 o.day.number) (take 6 (drop 1 (set old 0 68))))
    (houred : hours ≡ bytes_after (count_refusal 3 (quarter_hours_of o.length) (length (take 3 (drop 7 (put_mid 1 6 (set old 0 68) day))))) (count_text_of 3 (quarter_hours_of o.length)) (take 3 (drop 7 (put_mid 1 6 (set old 0 68) day))))
    (grouped : groups ≡ bytes_after (count_refusal 1 o.groups.number (length (take 1 (drop 10 (put_mid 7 3 (put_mid 1 6 (set old 0 68) day) hours))))) (count_text_of 1 o.groups.number) (take 1 (drop 10 (put_mid 7 3 (put_mid 1 6 (set old 0 68) day) hours))))
  where
    l0 : set old 0 68 ≡ (68 ∷ []) ++ drop 1 old
    l0 = set_next [] old old 0 refl refl 68 (omega arith)

    day_is : (day ≡ count_text_of 6 o.day.number) × (length day ≡ 6)
    day_is = count_put 6 o.day.number _ day (omega arith) (omega arith) (day_count o).0 (part_length 1 7 (set old 0 68) (omega arith) (omega (arith, length-set old 0 68))) dayed

    l1 : put_mid 1 6 (set old 0 68) day ≡ (68 ∷ day) ++ drop 7 old
    l1 = put_next (68 ∷ []) old (set old 0 68) 1 refl l0 6 day day_is.1

    long1 : length (put_mid 1 6 (set old 0 68) day) ≡ length old
    long1 = ap length l1 ∙ (let e : length ((68 ∷ day) ++ drop 7 old) ≡ length old = omega (arith, length-append (68 ∷ day) (drop 7 old), length-drop 7 old, day_is.1) in e)

    hours_is : (hours ≡ count_text_of 3 (quarter_hours_of o.length)) × (length hours ≡ 3)
    hours_is = count_put 3 (quarter_hours_of o.length) _ hours (omega arith) (omega arith) (small_length o.length) (part_length 7 10 (put_mid 1 6 (set old 0 68) day) (omega arith) (omega (arith, long1))) houred

    front2 : length (68 ∷ day) ≡ 7
    front2 = omega (arith, day_is.1)

    l2 : put_mid 7 3 (put_mid 1 6 (set old 0 68) day) hours ≡ ((68 ∷ day) ++ hours) ++ drop 10 old
    l2 = put_next (68 ∷ day) old (put_mid 1 6 (set old 0 68) day) 7 front2 l1 3 hours hours_is.1

    front3 : length ((68 ∷ day) ++ hours) ≡ 10
    front3 = omega (arith, length-append (68 ∷ day) hours, hours_is.1, day_is.1)

    long2 : length (put_mid 7 3 (put_mid 1 6 (set old 0 68) day) hours) ≡ length old
    long2 = ap length l2 ∙ (let e : length (((68 ∷ day) ++ hours) ++ drop 10 old) ≡ length old = omega (arith, length-append ((68 ∷ day) ++ hours) (drop 10 old), length-drop 10 old, front3) in e)

    groups_is : (groups ≡ count_text_of 1 o.groups.number) × (length groups ≡ 1)
    groups_is = count_put 1 o.groups.number _ groups (omega arith) (omega arith) (group_counted o).0 (part_length 10 11 (put_mid 7 3 (put_mid 1 6 (set old 0 68) day) hours) (omega arith) (omega (arith, long2))) grouped

    l3 : put_mid 10 1 (put_mid 7 3 (put_mid 1 6 (set old 0 68) day) hours) groups ≡ (((68 ∷ day) ++ hours) ++ groups) ++ drop 11 old
    l3 = put_next ((68 ∷ day) ++ hours) old (put_mid 7 3 (put_mid 1 6 (set old 0 68) day) hours) 10 front3 l2 1 groups groups_is.1

    front4 : length (((68 ∷ day) ++ hours) ++ groups) ≡ 11
    front4 = omega (arith, length-append ((68 ∷ day) ++ hours) groups, groups_is.1, front3)

    pub opening_put : set (put_mid 10 1 (put_mid 7 3 (put_mid 1 6 (set old 0 68) day) hours) groups) 11 10 ≡ opening_text o ++ drop 12 old
    opening_put =
        let l4 = set_next (((68 ∷ day) ++ hours) ++ groups) old (put_mid 10 1 (put_mid 7 3 (put_mid 1 6 (set old 0 68) day) hours) groups) 11 front4 l3 10 (omega arith) in
        let text : (((68 ∷ day) ++ hours) ++ groups) ++ (10 ∷ []) ≡ opening_text o =
        regrouped day hours groups (10 ∷ []) ∙ ap (λ (t : List ℕ). 68 ∷ (t ++ (hours ++ (groups ++ (10 ∷ []))))) day_is.0 ∙ ap (λ (t : List ℕ). 68 ∷ (count_text_of 6 o.day.number ++ (t ++ (groups ++ (10 ∷ []))))) hours_is.0
        ∙ ap (λ (t : List ℕ). 68 ∷ (count_text_of 6 o.day.number ++ (count_text_of 3 (quarter_hours_of o.length) ++ (t ++ (10 ∷ []))))) groups_is.0 in
        l4 ∙ ap (λ (t : List ℕ). t ++ drop 12 old) text

pub opening_length : (o : Opening) → length (opening_text o) ≡ 12
opening_length o = (whole_parts 12 (opening_text o) (opening_whole o (opening_text o) refl)).0
