use Rattle.std.proofs.Common.{◌≡◌, ◌∙◌, ◌++◌, ◌∷◌, [], ap, if◌then◌else◌, rules}
use Rattle.press_cluster.proofs.Owing.{kept_more, questions_behind}
use Rattle.press_cluster.specs.Going.{AreKept, is_query, owed_count, question_count}
use Rattle.press_cluster.proofs.lanes.Lane.put.Goals.{then-len-ge-MOST_MESSAGES, else-len-ge-MOST_MESSAGES}
use Rattle.press_cluster.proofs.lanes.Lane.put.Goals as goal

pub returns-else-is_err-clause-kept : goal.returns-else-is_err-clause-kept
returns-else-is_err-clause-kept c =
    let lane = c.if-len-ge-MOST_MESSAGES.self in
    let room : AreKept (owed_count c.args.self.now) (owed_count c.if-len-ge-MOST_MESSAGES.self) = search rules in
    let items : c.push_back.new.self.items ≡ c.if-len-ge-MOST_MESSAGES.self.waiting.items ++ (record { message = c.args.message; since = c.args.now }) ∷ [] = search rules in
    kept_more (owed_count c.args.self.now) (question_count lane.waiting.items) lane.looks lane.lost (if is_query c.args.message.body then 1 else 0) (question_count c.push_back.new.self.items) room (ap question_count items ∙ questions_behind lane.waiting.items _)
