use Prim.Native.Nat.{◌≤◌}
use Rattle.listing.specs.Listing.{listed}
use Rattle.listing.proofs.Listings.{Left, left_at}
use Rattle.listing.proofs.put_listings.Given as goal

abbrev pub invariant-loop-i : goal.invariant-loop-i
invariant-loop-i l = (l.many ≤ l.i) × Left (listed 1011 l.count l.start l.slots) (left_at l.start l.count l.i l.digits l.slots) l.initial.reply l.reply l.many l.digits
