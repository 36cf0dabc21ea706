use Rattle.std.proofs.Common.{Some, inl, inr}
use Rattle.press_operator.proofs.Sorts.{asked_sort, refused_sort}
use Rattle.press_operator.proofs.operator_options.sort_of.Goals as goal

pub returns-in-Err : goal.returns-in-Err
returns-in-Err c =
    let r = c.in-Err.ensures in
    refused_sort c.args.bytes.now r.0 (Some c.read_request.new.reader.now) c.in-Err.fault c.sort_of_refusal.result r.1 (inl r.3) c.sort_of_refusal.ensures

pub returns : goal.returns
returns c =
    let r = c.in-Ok.ensures in
    let e = c.in-Err-route.ensures in
    refused_sort c.args.bytes.now r.0 (Some c.read_request.new.reader.now) c.in-Err-route.fault c.sort_of_refusal-in-Err-route.result r.1 (inr (c.in-Ok.request, r.3, e)) c.sort_of_refusal-in-Err-route.ensures

pub returns-in-Ok-route : goal.returns-in-Ok-route
returns-in-Ok-route c =
    let r = c.in-Ok.ensures in
    asked_sort c.args.bytes.now r.0 (Some c.read_request.new.reader.now) c.in-Ok-route.asked c.sort_of_question.result r.1 (inr (c.in-Ok.request, r.3, c.in-Ok-route.ensures)) c.sort_of_question.ensures
