use Rattle.std.proofs.Common.{refl}
use Rattle.std.specs.Fmt.{digits}
use Rattle.press_page.specs.Template.{fixed_body}
use Rattle.press_http.specs.Replies.{fault_bytes, head_bytes, phrase_of}
use Rattle.press_http.proofs.reply.fixed_reply.Goals as goal

pub returns-in-200 : goal.returns-in-200
unfolding fault_bytes head_bytes phrase_of fixed_body digits
returns-in-200 c = rw c.in-200.is refl

pub returns-in-202 : goal.returns-in-202
unfolding fault_bytes head_bytes phrase_of fixed_body digits
returns-in-202 c = rw c.in-202.is refl

pub returns-in-400 : goal.returns-in-400
unfolding fault_bytes head_bytes phrase_of fixed_body digits
returns-in-400 c = rw c.in-400.is refl

pub returns-in-404 : goal.returns-in-404
unfolding fault_bytes head_bytes phrase_of fixed_body digits
returns-in-404 c = rw c.in-404.is refl

pub returns-in-405 : goal.returns-in-405
unfolding fault_bytes head_bytes phrase_of fixed_body digits
returns-in-405 c = rw c.in-405.is refl

pub returns-in-411 : goal.returns-in-411
unfolding fault_bytes head_bytes phrase_of fixed_body digits
returns-in-411 c = rw c.in-411.is refl

pub returns-in-413 : goal.returns-in-413
unfolding fault_bytes head_bytes phrase_of fixed_body digits
returns-in-413 c = rw c.in-413.is refl

pub returns-in-431 : goal.returns-in-431
unfolding fault_bytes head_bytes phrase_of fixed_body digits
returns-in-431 c = rw c.in-431.is refl

pub returns-in-500 : goal.returns-in-500
unfolding fault_bytes head_bytes phrase_of fixed_body digits
returns-in-500 c = rw c.in-500.is refl

pub returns-in-501 : goal.returns-in-501
unfolding fault_bytes head_bytes phrase_of fixed_body digits
returns-in-501 c = rw c.in-501.is refl

pub returns-in-503 : goal.returns-in-503
unfolding fault_bytes head_bytes phrase_of fixed_body digits
returns-in-503 c = rw c.in-503.is refl
