-- What is kept last is put back first.
use Rattle.std.proofs.Common.{◌≡◌, refl, sym, ap, subst, List, [], ◌∷◌, ◌++◌, Option}
use Rattle.press_posts.specs.declared.post.Post.{Post}
use Rattle.press_site.specs.declared.stood.Stood.{Stood}
use Rattle.press_events.specs.declared.event.Event.{Event}
use Rattle.press_events.specs.declared.shift.Shift.{Shift}
use Rattle.press_events.specs.Shifts.{MayShiftBack, shift_back}
use Rattle.press_site.specs.Back.{MayEventsGoBack, MayPostGoBack, MayPostsGoBack, events_back, option_back, options_back, post_back, posts_back}
use Rattle.press_site.specs.Options.{Values}

pub posts_pushed : (ws : List Stood) (w : Stood) (ps : List (Option Post)) → posts_back (ws ++ w ∷ []) ps ≡ posts_back ws (post_back w ps)
posts_pushed [] w ps = refl
posts_pushed (v ∷ ws) w ps = ap (λ (qs : List (Option Post)). post_back v qs) (posts_pushed ws w ps)

pub options_pushed : (ws : List Stood) (w : Stood) (es : Values) → options_back (ws ++ w ∷ []) es ≡ options_back ws (option_back w es)
options_pushed [] w es = refl
options_pushed (v ∷ ws) w es = ap (λ (fs : Values). option_back v fs) (options_pushed ws w es)

pub may_push : (ws : List Stood) (w : Stood) (ps : List (Option Post)) → MayPostGoBack w ps → MayPostsGoBack ws (post_back w ps) → MayPostsGoBack (ws ++ w ∷ []) ps
may_push [] w ps r m = (r, tt)
may_push (v ∷ ws) w ps r m = (subst (λ (qs : List (Option Post)). MayPostGoBack v qs) (sym (posts_pushed ws w ps)) m.0, may_push ws w ps r m.1)

pub may_pop : (ws : List Stood) (w : Stood) (ps : List (Option Post)) → MayPostsGoBack (ws ++ w ∷ []) ps → MayPostGoBack w ps × MayPostsGoBack ws (post_back w ps)
may_pop [] w ps m = (m.0, tt)
may_pop (v ∷ ws) w ps m =
    let rest = may_pop ws w ps m.1 in
    (rest.0, (subst (λ (qs : List (Option Post)). MayPostGoBack v qs) (posts_pushed ws w ps) m.0, rest.1))

-- ---- events

pub events_pushed : (ws : List Shift) (w : Shift) (es : List Event) → events_back (ws ++ w ∷ []) es ≡ events_back ws (shift_back w es)
events_pushed [] w es = refl
events_pushed (v ∷ ws) w es = ap (λ (fs : List Event). shift_back v fs) (events_pushed ws w es)

pub may_shift_push : (ws : List Shift) (w : Shift) (es : List Event) → MayShiftBack w es → MayEventsGoBack ws (shift_back w es) → MayEventsGoBack (ws ++ w ∷ []) es
may_shift_push [] w es r m = (r, tt)
may_shift_push (v ∷ ws) w es r m = (subst (λ (fs : List Event). MayShiftBack v fs) (sym (events_pushed ws w es)) m.0, may_shift_push ws w es r m.1)

pub may_shift_pop : (ws : List Shift) (w : Shift) (es : List Event) → MayEventsGoBack (ws ++ w ∷ []) es → MayShiftBack w es × MayEventsGoBack ws (shift_back w es)
may_shift_pop [] w es m = (m.0, tt)
may_shift_pop (v ∷ ws) w es m =
    let rest = may_shift_pop ws w es m.1 in
    (rest.0, (subst (λ (fs : List Event). MayShiftBack v fs) (events_pushed ws w es) m.0, rest.1))
