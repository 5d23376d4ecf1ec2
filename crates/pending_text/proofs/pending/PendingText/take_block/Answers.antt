use Rattle.std.proofs.Common.{◌≡◌, ◌-◌, ◌++◌, length, take, drop, replicate, ap, List, ℕ, refl, arith, rules, ◌∙◌, length-drop}
use borrow.Rule.Slice.PartMut.{put_mid, post_of}
use Rattle.std.proofs.lemmas.List.{take_at}
use Rattle.pending_text.proofs.Parts.{block_zeroed, block_taken}
use Rattle.pending_text.proofs.pending.PendingText.take_block.Goals as goal

pub returns-clause-zeros : goal.returns-clause-zeros
returns-clause-zeros c =
    let long : length c.args.self.now.bytes ≡ 676 = search rules in
    let blank : c.fill.new.self ≡ replicate 512 0 = search rules in
    block_zeroed c.args.self.now.bytes c.copy_within.new.self c.fill.new.self long (c.copy_within.ensures.len ∙ long) c.copy_within.ensures.after blank

pub returns-clause-taken : goal.returns-clause-taken
returns-clause-taken c =
    let old = c.args.self.now.bytes in
    let long : length old ≡ 676 = search rules in
    let out : c.copy_from_slice.new.self ++ post_of 0 512 c.args.out.now ≡ take 512 old ++ drop 512 c.args.out.now = search rules in
    let behind : length (drop 512 old) ≡ 164 = length-drop 512 old ∙ (let l : length old - 512 ≡ 164 = omega arith in l) in
    let left : take 164 (put_mid 164 512 c.copy_within.new.self c.fill.new.self) ≡ drop 512 old = ap (λ (xs : List ℕ). take 164 xs) (returns-clause-zeros c) ∙ take_at (drop 512 old) (replicate 512 0) 164 behind in
    block_taken c.args.self.now _ c.args.out.now _ c.if-self-lt-BLOCK.false c.if-out-lt-BLOCK.false out left refl
