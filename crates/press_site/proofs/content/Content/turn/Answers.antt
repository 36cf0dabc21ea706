use Rattle.std.proofs.Common.{◌≡◌, ◌∙◌, sym, ap, subst, true, Some, Option}
use Rattle.std.specs.Prelude.{Ok, IfOk}
use Rattle.std.proofs.lemmas.Result.{err_from_is_err_and}
use Rattle.press_posts.specs.declared.post.Post.{Post}
use Rattle.press_posts.specs.PostChange.{post_at, post_change}
use Rattle.press_posts.specs.PostChange.Change.{Moves}
use Rattle.press_posts.specs.Restored.{IsRestorable}
use Rattle.press_site.specs.Back.{ContentGoesBack, Does}
use Rattle.press_site.specs.Beside.{events_beside}
use Rattle.press_site.specs.ContentView.{ContentView}
use Rattle.press_site.specs.Contents.{beside_move, post_effect}
use Rattle.press_site.proofs.Back.{TakesBack, ended_back, ended_does, taken}
use Rattle.press_site.proofs.Joined.{answered, done, joined, posts_refused, told, turned}
use Rattle.press_site.proofs.content.Content.turn.Goals as goal

pub returns-in_err-fires-clause-does : goal.returns-in_err-fires-clause-does
returns-in_err-fires-clause-does c = λ now.
    let p = err_from_is_err_and c.from_residual-in_err-fires.result c.from_residual-in_err-fires.ensures.1 in
    let es = events_beside c.args.beside c.self.inside.events in
    let req = subst (λ (v : ContentView). beside_move (post_at v.posts c.args.id) c.args.to c.args.id v.events ≡ Ok (Some (events_beside c.args.beside v.events))) (sym c.self.view_is) c.requires.events in
    let t = turned c.self.inside.posts c.args.to c.args.id c.self.inside.events es (post_at c.self.inside.posts c.args.id) req in
    let h = c.in_err-fires.ensures now in
    subst (λ (v : ContentView). Does c.from_residual-in_err-fires.result (post_effect v (Moves c.args.id c.args.to) now) v (record { posts = c.set_status.new.self; events = c.self.inside.events })) c.self.view_is
    (rw (p.1, p.2) (
      posts_refused c.in_err-fires.field-0.0 (post_change c.self.inside.posts (Moves c.args.id c.args.to) now) t.x c.self.inside.events es t.is t.found h.0,
      ap (λ ps. record { posts = ps; events = c.self.inside.events }) h.1,
    ))

pub end-requires-clause-back : goal.end-requires-clause-back
end-requires-clause-back c =
    let change = Moves c.args.id c.args.to in
    let posts = c.self.inside.posts in
    let st : c.in_ok-stood.stood ≡ post_at posts c.args.id = subst (λ (v : ContentView). c.in_ok-stood.stood ≡ post_at v.posts c.args.id) (sym c.self.view_is) c.in_ok-stood.ensures in
    let t = taken (λ x. x.fires) c.in_ok-fires.fires c.set_status.new.self posts change (post_change posts change 0) (c.changes_are_taken_back.ensures posts change 0) (c.in_ok-fires.ensures 0) in
    subst (λ (p : Option Post). IsRestorable c.args.id p c.set_status.new.self) (sym st) t.0

pub returns-clause-does : goal.returns-clause-does
returns-clause-does c = λ now.
    let change = Moves c.args.id c.args.to in
    let posts = c.self.inside.posts in
    let st : c.in_ok-stood.stood ≡ post_at posts c.args.id = subst (λ (v : ContentView). c.in_ok-stood.stood ≡ post_at v.posts c.args.id) (sym c.self.view_is) c.in_ok-stood.ensures in
    let t = taken (λ x. x.fires) c.in_ok-fires.fires c.set_status.new.self posts change (post_change posts change 0) (c.changes_are_taken_back.ensures posts change 0) (c.in_ok-fires.ensures 0) in
    let back = subst (λ (p : Option Post). TakesBack c.args.id p c.set_status.new.self posts) (sym st) t in
    let s : ContentView = record { posts = posts; events = c.self.inside.events } in
    let es = events_beside c.args.beside c.self.inside.events in
    let req = subst (λ (v : ContentView). beside_move (post_at v.posts c.args.id) c.args.to c.args.id v.events ≡ Ok (Some (events_beside c.args.beside v.events))) (sym c.self.view_is) c.requires.events in
    let x = turned posts c.args.to c.args.id c.self.inside.events es (post_at posts c.args.id) req in
    let d = done (λ x. x.fires) c.in_ok-fires.fires c.set_status.new.self (post_change posts (Moves c.args.id c.args.to) now) x.x x.is (c.in_ok-fires.ensures now) in
    let e : post_effect s (Moves c.args.id c.args.to) now ≡ answered c.set_status.new.self es c.args.id true c.in_ok-fires.fires =
    joined (post_change posts (Moves c.args.id c.args.to) now) x.x c.self.inside.events es x.is x.found
    ∙ told x.x.posts c.set_status.new.self es x.x.id c.args.id x.x.goes true x.x.fires c.in_ok-fires.fires d.1 x.about x.did d.0 in
    subst (λ (v : ContentView). Does c.end.result (post_effect v (Moves c.args.id c.args.to) now) v c.end.new.self) c.self.view_is
    (ended_does c.end.result c.args.id c.in_ok-stood.stood c.set_status.new.self es c.in_ok-fires.fires c.end.new.self s back (post_effect s (Moves c.args.id c.args.to) now) e c.end.ensures.new c.end.ensures.changed c.end.ensures.err)

pub returns-clause-back : goal.returns-clause-back
returns-clause-back c =
    let change = Moves c.args.id c.args.to in
    let posts = c.self.inside.posts in
    let st : c.in_ok-stood.stood ≡ post_at posts c.args.id = subst (λ (v : ContentView). c.in_ok-stood.stood ≡ post_at v.posts c.args.id) (sym c.self.view_is) c.in_ok-stood.ensures in
    let t = taken (λ x. x.fires) c.in_ok-fires.fires c.set_status.new.self posts change (post_change posts change 0) (c.changes_are_taken_back.ensures posts change 0) (c.in_ok-fires.ensures 0) in
    let back = subst (λ (p : Option Post). TakesBack c.args.id p c.set_status.new.self posts) (sym st) t in
    let s : ContentView = record { posts = posts; events = c.self.inside.events } in
    subst (λ (v : ContentView). IfOk c.end.result (λ d. ContentGoesBack true d.undone c.end.new.self v)) c.self.view_is
    (ended_back c.end.result c.args.id c.in_ok-stood.stood c.set_status.new.self (events_beside c.args.beside c.self.inside.events) c.in_ok-fires.fires c.end.new.self s back c.end.ensures.new c.end.ensures.stood c.end.ensures.active c.end.ensures.profile c.end.ensures.events)
