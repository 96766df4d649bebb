use native.Mathlib.Omega.{arith}
use Rattle.listing.proofs.Listings.{at_skip, at_full, at_end, moved, done, pattern_in, took}
use Rattle.listing.proofs.put_listings.Goals as goal

pub loop-i-preserved-then-pattern-eq0 : goal.loop-i-preserved-then-pattern-eq0
loop-i-preserved-then-pattern-eq0 c =
    let l = c.loop-i in
    (omega arith, moved l.invariant.1 (at_skip c.args.slots.now l.i c.args.start c.args.count l.digits (omega arith) c.if-pattern-eq0.true))

pub put_listing-requires : goal.put_listing-requires
put_listing-requires c =
    let l = c.loop-i in
    let same = l.invariant.1.same in
    rw (pattern_in c.args.slots.now c.args.start c.args.count l.i l.digits 0 _ c.point_at.ensures) (omega (arith, c.ones.ensures))

pub loop-i-preserved : goal.loop-i-preserved
loop-i-preserved c =
    let l = c.loop-i in
    let same = l.invariant.1.same in
    (omega arith, took c.args.slots.now c.args.start c.args.count l.i l.digits _ _ c.point_at.ensures _ (omega arith) l.invariant.1 c.if-pattern-eq0.false c.ones.ensures c.if-size-digits.false (omega arith) c.put_listing.auto.reply c.put_listing.ensures)

pub returns-after-loop-i : goal.returns-after-loop-i
returns-after-loop-i c =
    let l = c.loop-i in
    let all = done l.invariant.1 (at_end c.args.slots.now c.args.start c.args.count l.i l.digits (omega arith)) in
    record { many_value = all.0; reply_after = all.1 }

pub returns-then-size-digits : goal.returns-then-size-digits
returns-then-size-digits c =
    let l = c.loop-i in
    let all = done l.invariant.1 (at_full c.args.slots.now l.i c.args.start c.args.count l.digits (omega arith) c.if-pattern-eq0.false (omega (arith, c.ones.ensures))) in
    record { many_value = all.0; reply_after = all.1 }
