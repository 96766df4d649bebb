use mathlib.Core.Path.{sym}
use Rattle.board.proofs.Received.{received}
use Rattle.board.proofs.cabinet_receive.Goals as goal

pub returns-in-Frame : goal.returns-in-Frame
returns-in-Frame c = received c.args.received.now c.find-found.ensures (sym c.in-Frame.is) c.frame_in-frame.ensures

pub returns-in-Nothing : goal.returns-in-Nothing
returns-in-Nothing c = received c.args.received.now c.find-found.ensures (sym c.in-Nothing.is) c.frame_in-frame.ensures

pub returns-in-Wait : goal.returns-in-Wait
returns-in-Wait c = received c.args.received.now c.find-found.ensures (sym c.in-Wait.is) c.frame_in-frame.ensures

pub returns-in-TooLong : goal.returns-in-TooLong
returns-in-TooLong c = received c.args.received.now c.find-found.ensures (sym c.in-TooLong.is) c.frame_in-frame.ensures
