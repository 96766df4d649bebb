use mathlib.Core.Path.{refl, sym, ap, ◌∙◌}
use native.Mathlib.Omega.{arith}
use lib.ListN.{length}
use Rattle.digits.specs.Laid.{laid}
use Rattle.digits.proofs.Laid.{laid_nothing}
use Rattle.frames.proofs.Closing.{length_reply}
use Rattle.messages.specs.Refusal.{refusal_number}
use Rattle.link.proofs.Checking.{no_text, error_text}
use Rattle.link.proofs.refuse.Goals as goal

pub returns-then-number-gt100 : goal.returns-then-number-gt100
returns-then-number-gt100 c =
    let n = refusal_number c.args.refusal in
    let t = sym (error_text c.args.station n (omega (arith, c.if-number-gt100.true, c.from-number.ensures))) in
    let e = rw c.from-number.ensures at c.error_reply-length.ensures in
    record {
      number_value = (refl, e.value ∙ sym (length_reply _ _ _) ∙ ap length t, refl, refl);
      reply_after = e.reply_after ∙ ap (laid c.args.reply.now 0) t;
    }

pub returns-else-number-gt100 : goal.returns-else-number-gt100
returns-else-number-gt100 c =
    let t = sym (no_text c.args.station (refusal_number c.args.refusal) (omega (arith, c.if-number-gt100.false, c.from-number.ensures))) in
    record {
      number_value = (refl, ap length t, refl, refl);
      reply_after = sym (laid_nothing c.args.reply.now 0) ∙ ap (laid c.args.reply.now 0) t;
    }
