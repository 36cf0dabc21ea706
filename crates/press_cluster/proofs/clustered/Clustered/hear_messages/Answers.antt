use Rattle.std.proofs.Common.{◌≡◌, ◌==◌, ◌∙◌, [], false, refl, rules, subst, sym}
use Rattle.std.proofs.lemmas.List.{nil_from_length}
use Rattle.std.specs.Vec.Iter.{into_iter_items}
use Rattle.press_member.specs.Acts.{view_of}
use Rattle.press_member.specs.declared.input.Input.TheVariants as input
use Rattle.press_cluster.specs.Living.{TakesAll, letters, more_come, none_comes}
use Rattle.press_cluster.proofs.Hearing.{hears_more, hears_none, takes_none, takes_others, takes_own}
use Rattle.press_cluster.proofs.clustered.Clustered.hear_messages.Goals as goal

pub loop-message-init : goal.loop-message-init
loop-message-init g c = (
  none_comes (view_of c.args.self.now.member),
  hears_none g.S.PromiseStore.seen c.args.from c.args.self.now.member,
  λ place. refl,
  refl,
  refl,
  λ last rest.
      let items : into_iter_items c.into_iter-message-iterator.result ≡ c.args.messages.items = search rules in
      subst (λ it. TakesAll g.S.PromiseStore.seen (letters c.args.from it) c.args.self.now.member last) items rest,
)

pub loop-message-preserved-in_ok-play : goal.loop-message-preserved-in_ok-play
loop-message-preserved-in_ok-play g c =
    let is : c.in-Some.message.from ≡ c.args.from = search rules in (
      more_come (view_of c.args.self.now.member) (view_of c.loop-message.self.member) (view_of c.play.new.self.member)
          c.loop-message.invariant.0 c.play.ensures.lives,
      hears_more g.S.PromiseStore.seen c.args.from (input.Message c.in-Some.message) c.args.self.now.member c.loop-message.self.member c.play.new.self.member c.loop-message.invariant.1 is c.play.ensures.takes,
      λ place. c.play.ensures.ways place ∙ c.loop-message.invariant.2 place,
      c.play.ensures.peers ∙ c.loop-message.invariant.3,
      c.play.ensures.recalls ∙ c.loop-message.invariant.4,
      λ last rest. c.loop-message.invariant.5 last
          (takes_own g.S.PromiseStore.seen c.args.from c.in-Some.message _ _ c.loop-message.self.member c.play.new.self.member last c.in-Some.ensures.steps.0 is c.play.ensures.takes rest),
    )

pub loop-message-preserved-in_ok-play-2 : goal.loop-message-preserved-in_ok-play-2
loop-message-preserved-in_ok-play-2 g c =
    let is : c.in-Some.message.from ≡ c.args.from = search rules in (
      more_come (view_of c.args.self.now.member) (view_of c.loop-message.self.member) (view_of c.play.new.self.member)
          c.loop-message.invariant.0 c.play.ensures.lives,
      hears_more g.S.PromiseStore.seen c.args.from (input.Message c.in-Some.message) c.args.self.now.member c.loop-message.self.member c.play.new.self.member c.loop-message.invariant.1 is c.play.ensures.takes,
      λ place. c.play.ensures.ways place ∙ c.loop-message.invariant.2 place,
      c.play.ensures.peers ∙ c.loop-message.invariant.3,
      c.play.ensures.recalls ∙ c.loop-message.invariant.4,
      λ last rest. c.loop-message.invariant.5 last
          (takes_own g.S.PromiseStore.seen c.args.from c.in-Some.message _ _ c.loop-message.self.member c.play.new.self.member last c.in-Some.ensures.steps.0 is c.play.ensures.takes rest),
    )

pub returns-in_err-play-clause-lives : goal.returns-in_err-play-clause-lives
returns-in_err-play-clause-lives g c = more_come (view_of c.args.self.now.member) (view_of c.loop-message.self.member) (view_of c.play.new.self.member)
    c.loop-message.invariant.0 c.play.ensures.lives

pub returns-in_err-play-clause-only : goal.returns-in_err-play-clause-only
returns-in_err-play-clause-only g c =
    let is : c.in-Some.message.from ≡ c.args.from = search rules in
    hears_more g.S.PromiseStore.seen c.args.from (input.Message c.in-Some.message) c.args.self.now.member c.loop-message.self.member c.play.new.self.member c.loop-message.invariant.1 is c.play.ensures.takes

pub loop-message-preserved-else-eq : goal.loop-message-preserved-else-eq
loop-message-preserved-else-eq g c =
    let before = c.loop-message.invariant in
    let is : (c.in-Some.message.from == c.args.from) ≡ false = search rules in (
      before.0,
      before.1,
      before.2,
      before.3,
      before.4,
      λ last rest. before.5 last (takes_others g.S.PromiseStore.seen c.args.from c.in-Some.message _ _ c.loop-message.self.member last c.in-Some.ensures.steps.0 is rest),
    )

pub loop-message-preserved-else-eq-2 : goal.loop-message-preserved-else-eq-2
loop-message-preserved-else-eq-2 g c =
    let before = c.loop-message.invariant in
    let is : (c.in-Some.message.from == c.args.from) ≡ false = search rules in (
      before.0,
      before.1,
      before.2,
      before.3,
      before.4,
      λ last rest. before.5 last (takes_others g.S.PromiseStore.seen c.args.from c.in-Some.message _ _ c.loop-message.self.member last c.in-Some.ensures.steps.0 is rest),
    )

pub loop-message-preserved-else-eq-3 : goal.loop-message-preserved-else-eq-3
loop-message-preserved-else-eq-3 g c =
    let before = c.loop-message.invariant in
    let is : (c.in-Some.message.from == c.args.from) ≡ false = search rules in (
      before.0,
      before.1,
      before.2,
      before.3,
      before.4,
      λ last rest. before.5 last (takes_others g.S.PromiseStore.seen c.args.from c.in-Some.message _ _ c.loop-message.self.member last c.in-Some.ensures.steps.0 is rest),
    )

pub loop-message-preserved-else-eq-4 : goal.loop-message-preserved-else-eq-4
loop-message-preserved-else-eq-4 g c =
    let before = c.loop-message.invariant in
    let is : (c.in-Some.message.from == c.args.from) ≡ false = search rules in (
      before.0,
      before.1,
      before.2,
      before.3,
      before.4,
      λ last rest. before.5 last (takes_others g.S.PromiseStore.seen c.args.from c.in-Some.message _ _ c.loop-message.self.member last c.in-Some.ensures.steps.0 is rest),
    )

pub loop-message-preserved : goal.loop-message-preserved
loop-message-preserved g c =
    let before = c.loop-message.invariant in
    let is : (c.in-Some.message.from == c.args.from) ≡ false = search rules in (
      before.0,
      before.1,
      before.2,
      before.3,
      before.4,
      λ last rest. before.5 last (takes_others g.S.PromiseStore.seen c.args.from c.in-Some.message _ _ c.loop-message.self.member last c.in-Some.ensures.steps.0 is rest),
    )

pub returns-clause-all : goal.returns-clause-all
returns-clause-all g c =
    let left = into_iter_items c.loop-message.message-iterator in
    let none : left ≡ [] = nil_from_length left (sym c.loop-message.message-iterator.rest.ok.0 ∙ c.in-None.ensures.steps.0) in
    c.loop-message.invariant.5 c.loop-message.self.member (takes_none g.S.PromiseStore.seen c.args.from left c.loop-message.self.member none)
