use Rattle.std.proofs.Common.{◌≡◌, sym, subst, rules, true, Option}
use Rattle.std.specs.Prelude.{IfOk}
use Rattle.press_posts.specs.declared.post.Post.{Post}
use Rattle.press_posts.specs.PostChange.{post_at, post_change}
use Rattle.press_posts.specs.PostChange.Change.{Edit}
use Rattle.press_posts.specs.Restored.{IsRestorable}
use Rattle.press_site.specs.Back.{ContentGoesBack, Does}
use Rattle.press_site.specs.Beside.{events_beside}
use Rattle.press_site.specs.ContentView.{ContentView}
use Rattle.press_site.specs.Contents.{post_effect}
use Rattle.press_site.proofs.Back.{TakesBack, ended_back, ended_does, taken}
use Rattle.press_site.proofs.Joined.{answered}
use Rattle.press_site.proofs.content.Content.edit.Goals as goal

pub end-requires-clause-back : goal.end-requires-clause-back
end-requires-clause-back c =
    let change = Edit c.args.id c.args.draft in
    let posts = c.self.inside.posts in
    let st : c.in_ok-stood.stood ≡ post_at posts c.args.id = subst (λ (v : ContentView). c.in_ok-stood.stood ≡ post_at v.posts c.args.id) (sym c.self.view_is) c.in_ok-stood.ensures in
    let t = taken (λ x. x.fires) c.in_ok-fires.fires c.edit.new.self posts change (post_change posts change c.args.now) (c.changes_are_taken_back.ensures posts change c.args.now) c.in_ok-fires.ensures in
    subst (λ (p : Option Post). IsRestorable c.args.id p c.edit.new.self) (sym st) t.0

pub returns-clause-does : goal.returns-clause-does
returns-clause-does c =
    let change = Edit c.args.id c.args.draft in
    let posts = c.self.inside.posts in
    let st : c.in_ok-stood.stood ≡ post_at posts c.args.id = subst (λ (v : ContentView). c.in_ok-stood.stood ≡ post_at v.posts c.args.id) (sym c.self.view_is) c.in_ok-stood.ensures in
    let t = taken (λ x. x.fires) c.in_ok-fires.fires c.edit.new.self posts change (post_change posts change c.args.now) (c.changes_are_taken_back.ensures posts change c.args.now) c.in_ok-fires.ensures in
    let back = subst (λ (p : Option Post). TakesBack c.args.id p c.edit.new.self posts) (sym st) t in
    let s : ContentView = record { posts = posts; events = c.self.inside.events } in
    let es = events_beside c.in_ok-beside.beside c.self.inside.events in
    let e : post_effect s (Edit c.args.id c.args.draft) c.args.now ≡ answered c.edit.new.self es c.args.id true c.in_ok-fires.fires =
    subst (λ (v : ContentView). post_effect v (Edit c.args.id c.args.draft) c.args.now ≡ answered c.edit.new.self (events_beside c.in_ok-beside.beside v.events) c.args.id true c.in_ok-fires.fires) (sym c.self.view_is) (search rules) in
    subst (λ (v : ContentView). Does c.end.result (post_effect v (Edit c.args.id c.args.draft) c.args.now) v c.end.new.self) c.self.view_is
    (ended_does c.end.result c.args.id c.in_ok-stood.stood c.edit.new.self es c.in_ok-fires.fires c.end.new.self s back (post_effect s (Edit c.args.id c.args.draft) c.args.now) e c.end.ensures.new c.end.ensures.changed c.end.ensures.err)

pub returns-clause-back : goal.returns-clause-back
returns-clause-back c =
    let change = Edit c.args.id c.args.draft in
    let posts = c.self.inside.posts in
    let st : c.in_ok-stood.stood ≡ post_at posts c.args.id = subst (λ (v : ContentView). c.in_ok-stood.stood ≡ post_at v.posts c.args.id) (sym c.self.view_is) c.in_ok-stood.ensures in
    let t = taken (λ x. x.fires) c.in_ok-fires.fires c.edit.new.self posts change (post_change posts change c.args.now) (c.changes_are_taken_back.ensures posts change c.args.now) c.in_ok-fires.ensures in
    let back = subst (λ (p : Option Post). TakesBack c.args.id p c.edit.new.self posts) (sym st) t in
    let s : ContentView = record { posts = posts; events = c.self.inside.events } in
    subst (λ (v : ContentView). IfOk c.end.result (λ d. ContentGoesBack true d.undone c.end.new.self v)) c.self.view_is
    (ended_back c.end.result c.args.id c.in_ok-stood.stood c.edit.new.self (events_beside c.in_ok-beside.beside c.self.inside.events) c.in_ok-fires.fires c.end.new.self s back c.end.ensures.new c.end.ensures.stood c.end.ensures.active c.end.ensures.profile c.end.ensures.events)
