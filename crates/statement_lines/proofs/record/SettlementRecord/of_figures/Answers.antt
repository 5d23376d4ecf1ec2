use Rattle.std.proofs.Common.{◌≡◌, List, [], ◌∷◌, length, get_or, drop, ℤ, pos, sym, ap, ◌∙◌, arith, w64, SFits, rules}
use Rattle.std.proofs.lemmas.List.{drop_more, drop_all}
use Rattle.std.proofs.lemmas.Int.{to_z-of_z}
use Rattle.quantity.specs.declared.power.Power.{Power}
use Rattle.quantity.specs.declared.energy.Energy.{Energy}
use Rattle.quantity.specs.declared.share.Share.{Share}
use Rattle.statement_lines.proofs.record.SettlementRecord.of_figures.Goals as goal

-- a list of eight, element by element
eight : (xs : List ℤ) (a b c d e f g h : ℤ) → length xs ≡ 8 → a ≡ get_or xs 0 (pos 0) → b ≡ get_or xs 1 (pos 0) → c ≡ get_or xs 2 (pos 0) → d ≡ get_or xs 3 (pos 0) → e ≡ get_or xs 4 (pos 0) → f ≡ get_or xs 5 (pos 0) → g ≡ get_or xs 6 (pos 0) → h ≡ get_or xs 7 (pos 0) →
    a ∷ (b ∷ (c ∷ (d ∷ (e ∷ (f ∷ (g ∷ (h ∷ []))))))) ≡ xs
eight xs a b c d e f g h long p0 p1 p2 p3 p4 p5 p6 p7 =
    let h0 : xs ≡ get_or xs 0 (pos 0) ∷ drop 1 xs = drop_more xs 0 (pos 0) (omega arith) in
    let h1 = drop_more xs 1 (pos 0) (omega arith) in
    let h2 = drop_more xs 2 (pos 0) (omega arith) in
    let h3 = drop_more xs 3 (pos 0) (omega arith) in
    let h4 = drop_more xs 4 (pos 0) (omega arith) in
    let h5 = drop_more xs 5 (pos 0) (omega arith) in
    let h6 = drop_more xs 6 (pos 0) (omega arith) in
    let h7 = drop_more xs 7 (pos 0) (omega arith) in
    let h8 = drop_all 8 xs (omega arith) in
    rw (p0, p1, p2, p3, p4, p5, p6, p7) (sym (h0 ∙ ap (λ (l : List ℤ). get_or xs 0 (pos 0) ∷ l) (h1 ∙ rw (h2, h3, h4, h5, h6, h7, h8))))

pub returns : goal.returns
returns c =
    let xs = c.args.figures.now in
    let long : length xs ≡ 8 = search rules in
    let f0 : SFits w64 (get_or xs 0 (pos 0)) = search rules in
    let f1 : SFits w64 (get_or xs 1 (pos 0)) = search rules in
    let f2 : SFits w64 (get_or xs 2 (pos 0)) = search rules in
    let f3 : SFits w64 (get_or xs 3 (pos 0)) = search rules in
    let f4 : SFits w64 (get_or xs 4 (pos 0)) = search rules in
    let f5 : SFits w64 (get_or xs 5 (pos 0)) = search rules in
    let f6 : SFits w64 (get_or xs 6 (pos 0)) = search rules in
    let f7 : SFits w64 (get_or xs 7 (pos 0)) = search rules in
    eight xs _ _ _ _ _ _ _ _ long (ap (λ (p : Power). p.units) c.from_units.ensures ∙ to_z-of_z w64 _ f0) (ap (λ (p : Power). p.units) c.from_units-2.ensures ∙ to_z-of_z w64 _ f1) (ap (λ (p : Power). p.units) c.from_units-3.ensures ∙ to_z-of_z w64 _ f2) (ap (λ (p : Power). p.units) c.from_units-4.ensures ∙ to_z-of_z w64 _ f3)
    (ap (λ (p : Energy). p.units) c.from_units-5.ensures ∙ to_z-of_z w64 _ f4) (ap (λ (p : Energy). p.units) c.from_units-6.ensures ∙ to_z-of_z w64 _ f5) (ap (λ (p : Share). p.units) c.from_units-7.ensures ∙ to_z-of_z w64 _ f6) (ap (λ (p : Share). p.units) c.from_units-8.ensures ∙ to_z-of_z w64 _ f7)
