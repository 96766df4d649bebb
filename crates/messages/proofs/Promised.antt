-- The law of specs/Laws.antt.
use Rattle.frames.specs.Frame.{content_in}
use Rattle.table.specs.Table.{message_of}
use Rattle.messages.specs.Asked.{asked_of}
use Rattle.messages.specs.Laws.{EveryJudgement}
use Rattle.messages.proofs.Judged.{number_judged, refused_some, told}

pub judgement : EveryJudgement
unfolding asked_of
judgement held fitted release frame =
    record {
      number = number_judged held fitted release (message_of release frame) (content_in frame);
      order = λ m start count e. let t = told held fitted release (message_of release frame) (content_in frame) m start count e in (t.message, t.start_is, t.count_is);
      refused = refused_some held fitted release frame;
    }
