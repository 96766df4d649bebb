use Rattle.std.proofs.Common.{ℕ, ◌≡◌, ◌∙◌, sym, ◌+◌, ◌-◌, ◌++◌, length, take, replicate}
use Rattle.std.proofs.lemmas.Grind.{common_steps}
use Rattle.std.proofs.lemmas.List.{length-replicate}
use borrow.Rule.Slice.PartMut.{put_mid}
use native.Mathlib.Omega.{arith}
use Rattle.journal.proofs.Adding.{entry_laid, laid_end}
use Rattle.journal.proofs.put_entry.Goals as goal

pub returns : goal.returns
returns c =
    let a = c.args in
    let d = c.put_run.new.area in
    let end = a.at + 5 + length a.old.now in
    let cleared : put_mid end (length d - end) d c.fill.new.self ≡ take end d ++ replicate (length d - end) 0 = grind (arith, common_steps) in
    entry_laid a.journal.now _ _ _ a.old.now a.at a.tag a.start (omega arith) c.put_head.ensures c.put_run.ensures
    (cleared ∙ sym (laid_end d (replicate (length d - end) 0) end (omega (arith, length-replicate {A = ℕ} (length d - end) 0))))
