use mathlib.Core.Path.{ap, refl}
use Rattle.table.specs.declared.Action.TheVariants.{WritePoints, ClearRun, ChangeRun, SetFlag}
use Rattle.orders.specs.Orders.{writes}
use Rattle.orders.proofs.Handling as handling
use Rattle.orders.proofs.store.Goals as goal

pub rest_of-rest-requires : goal.rest_of-rest-requires
rest_of-rest-requires c = handling.rest_needs c.requires.0

pub write_points-requires : goal.write_points-requires
write_points-requires c =
    let it = handling.points_needs c.requires.0 c.requires.1 c.in-WritePoints.is refl c.rest_of-rest.ensures in
    rw c.run-run.ensures (record { unit_value = it.0; ready = it.1 })

pub clear-requires : goal.clear-requires
clear-requires c = rw c.run-run.ensures (handling.can_write c.requires.0 c.requires.1 (ap writes c.in-ClearRun.is) refl)

pub change-requires : goal.change-requires
change-requires c =
    let it = handling.change_needs c.requires.0 c.requires.1 c.in-ChangeRun.is refl c.rest_of-rest.ensures in
    rw c.run-run.ensures (record { digits_value = it.0; ready = it.1 })

pub set_flag-requires : goal.set_flag-requires
set_flag-requires c =
    let it = handling.flag_needs c.requires.0 c.requires.1 c.in-SetFlag.is refl c.rest_of-rest.ensures in
    rw c.run-run.ensures (record { unit_value = it.0; ready = it.1 })

pub returns-in-SayBack : goal.returns-in-SayBack
returns-in-SayBack c = handling.stays (ap writes c.in-SayBack.is)

pub returns-in-CountPoints : goal.returns-in-CountPoints
returns-in-CountPoints c = handling.stays (ap writes c.in-CountPoints.is)

pub returns-in-ListPoints : goal.returns-in-ListPoints
returns-in-ListPoints c = handling.stays (ap writes c.in-ListPoints.is)

pub returns-in-ReadRun : goal.returns-in-ReadRun
returns-in-ReadRun c = handling.stays (ap writes c.in-ReadRun.is)

pub returns-in-AxisStatus : goal.returns-in-AxisStatus
returns-in-AxisStatus c = handling.stays (ap writes c.in-AxisStatus.is)

pub returns-in-WritePoints : goal.returns-in-WritePoints
returns-in-WritePoints c = handling.stored WritePoints c.in-WritePoints.is refl refl (rw c.rest_of-rest.ensures) (rw c.run-run.ensures at c.write_points.ensures)

pub returns-in-ClearRun : goal.returns-in-ClearRun
returns-in-ClearRun c = handling.stored ClearRun c.in-ClearRun.is refl refl refl (rw c.run-run.ensures at c.clear.ensures)

pub returns-in-ChangeRun : goal.returns-in-ChangeRun
returns-in-ChangeRun c = handling.stored ChangeRun c.in-ChangeRun.is refl refl (rw c.rest_of-rest.ensures) (rw c.run-run.ensures at c.change.ensures)

pub returns-in-ShowFlags : goal.returns-in-ShowFlags
returns-in-ShowFlags c = handling.stays (ap writes c.in-ShowFlags.is)

pub returns-in-SetFlag : goal.returns-in-SetFlag
returns-in-SetFlag c = handling.stored SetFlag c.in-SetFlag.is refl refl (rw c.rest_of-rest.ensures) (rw c.run-run.ensures at c.set_flag.ensures)
