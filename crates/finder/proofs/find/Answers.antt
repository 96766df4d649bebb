use mathlib.Core.Path.{sym, ◌∙◌}
use Rattle.finder.proofs.Finding.{is_nothing, is_cut, is_whole, is_frame, is_long, is_wait}
use Rattle.finder.proofs.find.Goals as goal

pub returns-then-start-received : goal.returns-then-start-received
returns-then-start-received c = is_nothing _ _ c.first-start.ensures c.if-start-received.true

pub returns-then-bytes-lt20 : goal.returns-then-bytes-lt20
returns-then-bytes-lt20 c =
    let t = sym c.begins_test_call.ensures ∙ c.if-begins_test_call.true in
    is_cut c.args.received.now _ c.first-start.ensures c.if-start-received.false t c.if-bytes-lt20.true

pub returns-then-begins_test_call : goal.returns-then-begins_test_call
returns-then-begins_test_call c =
    let t = sym c.begins_test_call.ensures ∙ c.if-begins_test_call.true in
    is_whole c.args.received.now _ c.first-start.ensures c.if-start-received.false t c.if-bytes-lt20.false

pub returns-then-n-seen : goal.returns-then-n-seen
returns-then-n-seen c =
    let t = sym c.begins_test_call.ensures ∙ c.if-begins_test_call.false in
    is_frame c.args.received.now _ c.first-start.ensures c.if-start-received.false t _ _ c.window-seen.ensures c.pair-n.ensures c.if-n-seen.true

pub returns-then-seen-eq1023 : goal.returns-then-seen-eq1023
returns-then-seen-eq1023 c =
    let t = sym c.begins_test_call.ensures ∙ c.if-begins_test_call.false in
    is_long c.args.received.now _ c.first-start.ensures c.if-start-received.false t _ _ c.window-seen.ensures c.pair-n.ensures c.if-n-seen.false c.if-seen-eq1023.true

pub returns : goal.returns
returns c =
    let t = sym c.begins_test_call.ensures ∙ c.if-begins_test_call.false in
    is_wait c.args.received.now _ c.first-start.ensures c.if-start-received.false t _ _ c.window-seen.ensures c.pair-n.ensures c.if-n-seen.false c.if-seen-eq1023.false
