use Rattle.std.proofs.Common.{◌≡◌, ◌∙◌, sym, refl, ap, subst, rules, true, [], None, Option}
use Rattle.std.specs.Prelude.{Ok, IfOk}
use Rattle.std.proofs.lemmas.Result.{err_from_is_err_and}
use Rattle.press_posts.specs.declared.post.Post.{Post}
use Rattle.press_posts.specs.PostChange.{post_at, post_change, delete_post}
use Rattle.press_posts.specs.PostChange.Change.{Delete}
use Rattle.press_posts.specs.Restored.{IsRestorable}
use Rattle.press_site.specs.Back.{ContentGoesBack, Does}
use Rattle.press_site.specs.Beside.{events_beside}
use Rattle.press_site.specs.ContentView.{ContentView}
use Rattle.press_site.specs.Contents.{events_of, post_effect}
use Rattle.press_site.proofs.Back.{TakesBack, ended_back, ended_does, taken}
use Rattle.press_site.proofs.Joined.{answered, done, joined, posts_refused, told}
use Rattle.press_site.proofs.content.Content.delete.Goals as goal

pub returns-in_err-delete-clause-does : goal.returns-in_err-delete-clause-does
returns-in_err-delete-clause-does c = λ now.
    let p = err_from_is_err_and c.from_residual-in_err-delete.result c.from_residual-in_err-delete.ensures.1 in
    let m : post_change c.self.inside.posts (Delete c.args.id) now ≡ Ok (delete_post c.args.id c.self.inside.posts) = search rules in
    let h = c.in_err-delete.ensures now in
    let es = events_beside c.in_ok-beside.beside c.self.inside.events in
    subst (λ (v : ContentView). Does c.from_residual-in_err-delete.result (post_effect v (Delete c.args.id) now) v (record { posts = c.delete.new.self; events = c.self.inside.events })) c.self.view_is
    (rw (p.1, p.2) (
      posts_refused c.in_err-delete.field-0.0 (post_change c.self.inside.posts (Delete c.args.id) now) (delete_post c.args.id c.self.inside.posts) c.self.inside.events es m
          (subst (λ (v : ContentView). events_of None c.args.id v.events ≡ Ok (events_beside c.in_ok-beside.beside v.events)) (sym c.self.view_is) (ap (λ es. Ok es) (sym c.in_ok-beside.ensures.does))) h.0,
      ap (λ ps. record { posts = ps; events = c.self.inside.events }) h.1,
    ))

pub end-requires-clause-back : goal.end-requires-clause-back
end-requires-clause-back c =
    let change = Delete c.args.id in
    let posts = c.self.inside.posts in
    let st : c.in_ok-stood.stood ≡ post_at posts c.args.id = subst (λ (v : ContentView). c.in_ok-stood.stood ≡ post_at v.posts c.args.id) (sym c.self.view_is) c.in_ok-stood.ensures in
    let t = taken (λ x. tt) c.in_ok-delete.field-0 c.delete.new.self posts change (post_change posts change 0) (c.changes_are_taken_back.ensures posts change 0) (c.in_ok-delete.ensures 0) in
    subst (λ (p : Option Post). IsRestorable c.args.id p c.delete.new.self) (sym st) t.0

pub returns-clause-does : goal.returns-clause-does
returns-clause-does c = λ now.
    let change = Delete c.args.id in
    let posts = c.self.inside.posts in
    let st : c.in_ok-stood.stood ≡ post_at posts c.args.id = subst (λ (v : ContentView). c.in_ok-stood.stood ≡ post_at v.posts c.args.id) (sym c.self.view_is) c.in_ok-stood.ensures in
    let t = taken (λ x. tt) c.in_ok-delete.field-0 c.delete.new.self posts change (post_change posts change 0) (c.changes_are_taken_back.ensures posts change 0) (c.in_ok-delete.ensures 0) in
    let back = subst (λ (p : Option Post). TakesBack c.args.id p c.delete.new.self posts) (sym st) t in
    let s : ContentView = record { posts = posts; events = c.self.inside.events } in
    let es = events_beside c.in_ok-beside.beside c.self.inside.events in
    let m : post_change posts (Delete c.args.id) now ≡ Ok (delete_post c.args.id posts) = search rules in
    let d = done (λ x. tt) c.in_ok-delete.field-0 c.delete.new.self (post_change posts (Delete c.args.id) now) (delete_post c.args.id posts) m (c.in_ok-delete.ensures now) in
    let e : post_effect s (Delete c.args.id) now ≡ answered c.delete.new.self es c.args.id true c.new-fires.result =
    joined (post_change posts (Delete c.args.id) now) (delete_post c.args.id posts) c.self.inside.events es m
    (subst (λ (v : ContentView). events_of None c.args.id v.events ≡ Ok (events_beside c.in_ok-beside.beside v.events)) (sym c.self.view_is) (ap (λ es. Ok es) (sym c.in_ok-beside.ensures.does)))
    ∙ told _ _ es c.args.id c.args.id true true [] c.new-fires.result d.1 refl refl c.new-fires.ensures in
    subst (λ (v : ContentView). Does c.end.result (post_effect v (Delete c.args.id) now) v c.end.new.self) c.self.view_is
    (ended_does c.end.result c.args.id c.in_ok-stood.stood c.delete.new.self es c.new-fires.result c.end.new.self s back (post_effect s (Delete c.args.id) now) e c.end.ensures.new c.end.ensures.changed c.end.ensures.err)

pub returns-clause-back : goal.returns-clause-back
returns-clause-back c =
    let change = Delete c.args.id in
    let posts = c.self.inside.posts in
    let st : c.in_ok-stood.stood ≡ post_at posts c.args.id = subst (λ (v : ContentView). c.in_ok-stood.stood ≡ post_at v.posts c.args.id) (sym c.self.view_is) c.in_ok-stood.ensures in
    let t = taken (λ x. tt) c.in_ok-delete.field-0 c.delete.new.self posts change (post_change posts change 0) (c.changes_are_taken_back.ensures posts change 0) (c.in_ok-delete.ensures 0) in
    let back = subst (λ (p : Option Post). TakesBack c.args.id p c.delete.new.self posts) (sym st) t in
    let s : ContentView = record { posts = posts; events = c.self.inside.events } in
    subst (λ (v : ContentView). IfOk c.end.result (λ d. ContentGoesBack true d.undone c.end.new.self v)) c.self.view_is
    (ended_back c.end.result c.args.id c.in_ok-stood.stood c.delete.new.self (events_beside c.in_ok-beside.beside c.self.inside.events) c.new-fires.result c.end.new.self s back c.end.ensures.new c.end.ensures.stood c.end.ensures.active c.end.ensures.profile c.end.ensures.events)
