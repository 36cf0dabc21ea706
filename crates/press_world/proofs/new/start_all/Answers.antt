use Rattle.std.proofs.Common.{ℕ, ◌≡◌, ◌+◌, ◌++◌, ◌∷◌, [], length, map, sym, ap, ◌∙◌, append_assoc, arith, length-append, suc}
use Rattle.std.proofs.lemmas.List.{length-map}
use Rattle.press_callbacks.specs.Kits.{kit_view}
use Rattle.press_acceptor.specs.StoreMap.{new_store}
use Rattle.press_world.specs.Seats.{Static, place_of, static_of}
use Rattle.press_world.specs.Starts.{statics_from, views_of}
use Rattle.press_world.specs.Worlds.{Place, new_places, restarted_place}
use Rattle.press_world.proofs.Started.{map_push, places_push, statics_push}
use Rattle.press_world.proofs.Worlds.{length_new}
use Rattle.press_world.proofs.new.start_all.Goals as goal

-- as many nodes as kits have come
pub member_at-member-requires : goal.member_at-member-requires
member_at-member-requires g c =
    let ys = c.loop-kit.yielded in
    let seats = c.loop-kit.seats.items in
    let count : length seats ≡ length ys = sym (length-map seats place_of) ∙ ap length c.loop-kit.invariant.places ∙ length_new c.args.members 1 (length ys) in
    let from : ys ++ (c.in-Some.kit ∷ c.next.new.self.rest.items) ≡ c.args.kits.items = ap (λ x. ys ++ x) (sym c.in-Some.ensures.steps.0) ∙ c.loop-kit.invariant.from in
    omega (arith, c.len.ensures, count, ap length from, length-append ys (c.in-Some.kit ∷ c.next.new.self.rest.items), c.requires.count, c.requires.few)

pub loop-kit-preserved : goal.loop-kit-preserved
loop-kit-preserved g c =
    let ys = c.loop-kit.yielded in
    let kit = c.in-Some.kit in
    let rest = c.next.new.self.rest.items in
    let seats = c.loop-kit.seats.items in
    let n : length (ys ++ kit ∷ []) ≡ suc (length ys) = omega (arith, length-append ys (kit ∷ [])) in
    let count : length seats ≡ length ys = sym (length-map seats place_of) ∙ ap length c.loop-kit.invariant.places ∙ length_new c.args.members 1 (length ys) in
    let len : c.len.result ≡ length seats = omega (arith, c.len.ensures) in
    let id : c.member_at-member.result ≡ 1 + length ys = c.member_at-member.ensures ∙ (ap (λ k. k + 1) (len ∙ count) ∙ omega arith) in
    let id_views : c.member_at-member.result ≡ 1 + length (views_of ys) = id ∙ ap (λ k. 1 + k) (sym (length-map ys kit_view)) in
    record {
      places = ap (map place_of) c.in_ok-push.ensures.items ∙ map_push place_of seats c.start.result
          ∙ ap (λ xs. xs ++ place_of c.start.result ∷ []) c.loop-kit.invariant.places
          ∙ ap (λ (p : Place). new_places c.args.members 1 (length ys) ++ p ∷ []) (c.start.ensures.place ∙ ap (λ k. restarted_place c.args.members k new_store) id)
          ∙ places_push c.args.members 1 (length ys) ∙ ap (new_places c.args.members 1) (sym n);
      statics = ap (map static_of) c.in_ok-push.ensures.items ∙ map_push static_of seats c.start.result
          ∙ ap (λ xs. xs ++ static_of c.start.result ∷ []) c.loop-kit.invariant.statics
          ∙ ap (λ (x : Static). statics_from 1 c.args.members (views_of ys) ++ x ∷ []) (c.start.ensures.fixed ∙ ap (λ (k : ℕ). record { id = k; members = c.args.members; kit = kit_view kit }) id_views)
          ∙ statics_push 1 c.args.members (views_of ys) (kit_view kit) ∙ ap (statics_from 1 c.args.members) (sym (map_push kit_view ys kit));
      from = append_assoc ys (kit ∷ []) rest ∙ (ap (λ x. ys ++ x) (sym c.in-Some.ensures.steps.0) ∙ c.loop-kit.invariant.from);
    }
