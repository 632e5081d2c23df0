-- The layer is pushed, its picture drawn in it, and popped; the first refusal ends it. Each of the three is the rules' step at what is told so far. A layer
-- that needs no buffer is only drawn.
use Rattle.std.proofs.Common.{refl, ◌∙◌}
use Rattle.std.proofs.lemmas.Result.{err_from_is_err_and}
use Rattle.sizes.proofs.Refusals.{not_done}
use Rattle.rules.specs.Walk.{props-of}
use Rattle.rect.specs.Rects.{box_of}
use Rattle.file.specs.Held.{held}
use Rattle.file.specs.Records.{layer-of}
use Rattle.tile.specs.Places.{layer-in}
use Rattle.tile.proofs.Said.{says, says-left}
use Rattle.tile.proofs.Records.{filter-dest}
use Rattle.tile.proofs.WalkSteps.{filter-told, push-told, pop-told, blend-told, clip-told, panel-told, good-told, ready-told, buffer-told, holds-inside}
use Rattle.tile.proofs.Layers.{plain, filter-unpushed, filter-undrawn, filter-closed}
use Rattle.tile.proofs.story.tell_filter_layer.Goals as goal

pub tell_picture-requires : goal.tell_picture-requires
tell_picture-requires c =
    let ready = c.requires.ready in
    record { spot = ready.spotted; within = ready.bounded; counts = ready.low; lines = ready.room; dest = filter-dest (held c.args.teller.now.file) (layer-of c.args.layer) c.requires.good c.requires.filter }

pub returns-then-not-needs_buffer-clause-told : goal.returns-then-not-needs_buffer-clause-told
returns-then-not-needs_buffer-clause-told c =
    let s = c.args in
    let y = layer-of s.layer in
    let e = c.to_props-props.ensures.props in
    let q = buffer-told y e _ c.needs_buffer.ensures c.to_props-props.ensures.word in
    λ ls o. plain s.teller.now.spot _ y (q ∙ c.if-not-needs_buffer.true) _ (filter-told s.teller.now.spot _ _ refl _ (c.tell_picture.ensures.told ls o))

pub tell_push-requires : goal.tell_push-requires
tell_push-requires c =
    let ready = c.requires.ready in
    record { spot = ready.spotted; within = ready.bounded; counts = ready.low; clip = good-told (layer-of c.args.layer) c.to_props-props.ensures.props (held c.args.teller.now.file) c.requires.good }

pub returns-in_err-inner-clause-told : goal.returns-in_err-inner-clause-told
returns-in_err-inner-clause-told c =
    let s = c.args in
    let y = layer-of s.layer in
    let e = c.to_props-props.ensures.props in
    let q = buffer-told y e _ c.needs_buffer.ensures c.to_props-props.ensures.word in
    let p = err_from_is_err_and c.from_residual.result c.from_residual.ensures.1 in
    rw (p.1, p.2)
    (λ ls o.
    filter-unpushed s.teller.now.spot _ y (q ∙ c.if-not-needs_buffer.false) _
    (push-told s.teller.now.spot _ _ (says (c.in_err-inner.ensures.told (props-of y) ls s.lines.now (blend-told y e) (clip-told y e) o))) (not_done _) _)

pub tell_picture-requires-2 : goal.tell_picture-requires-2
tell_picture-requires-2 c =
    let ready = c.requires.ready in
    record { spot = ready.spotted; within = c.in_ok-inner.ensures.opens.0; counts = c.in_ok-inner.ensures.low; lines = ready.room; dest = filter-dest (held c.args.teller.now.file) (layer-of c.args.layer) c.requires.good c.requires.filter }

pub returns-in_err-tell_picture-clause-told : goal.returns-in_err-tell_picture-clause-told
returns-in_err-tell_picture-clause-told c =
    let s = c.args in
    let y = layer-of s.layer in
    let e = c.to_props-props.ensures.props in
    let q = buffer-told y e _ c.needs_buffer.ensures c.to_props-props.ensures.word in
    let pushed = c.in_ok-inner.ensures in
    let p = err_from_is_err_and c.from_residual-in_err-tell_picture.result c.from_residual-in_err-tell_picture.ensures.1 in
    rw (p.1, p.2)
    (λ ls o.
    filter-undrawn s.teller.now.spot _ y (q ∙ c.if-not-needs_buffer.false) _
    (push-told s.teller.now.spot _ _ (says (pushed.told (props-of y) ls s.lines.now (blend-told y e) (clip-told y e) o))) refl
    (filter-told s.teller.now.spot _ _ refl _
    (c.in_err-tell_picture.ensures.told _ (holds-inside (box_of s.teller.now.spot.viewport) (props-of y) s.within c.in_ok-inner.inner ls pushed.opens.1 o)))
    (not_done _) _)

pub tell_pop-requires : goal.tell_pop-requires
tell_pop-requires c =
    let ready = c.requires.ready in
    record { spot = ready.spotted; within = c.in_ok-inner.ensures.opens.0; outer = ready.bounded; inner = c.in_ok-inner.ensures.opens.1; counts = c.in_ok-tell_picture.ensures.low; lines = c.tell_picture-2.auto.lines ∙ ready.room; clip = ready-told (layer-of c.args.layer) c.to_props-props.ensures.props (held c.args.teller.now.file) ready.walk.good _ c.segments.ensures.read c.segments.ensures.long c.requires.good }

pub returns-clause-told : goal.returns-clause-told
returns-clause-told c =
    let s = c.args in
    let y = layer-of s.layer in
    let e = c.to_props-props.ensures.props in
    let q = buffer-told y e _ c.needs_buffer.ensures c.to_props-props.ensures.word in
    let pushed = c.in_ok-inner.ensures in
    λ ls o.
    filter-closed s.teller.now.spot _ y (q ∙ c.if-not-needs_buffer.false) _
    (push-told s.teller.now.spot _ _ (says (pushed.told (props-of y) ls s.lines.now (blend-told y e) (clip-told y e) o))) refl
    (filter-told s.teller.now.spot _ _ refl _
    (c.in_ok-tell_picture.ensures.told _ (holds-inside (box_of s.teller.now.spot.viewport) (props-of y) s.within c.in_ok-inner.inner ls pushed.opens.1 o)))
    refl
    (pop-told s.teller.now.spot _ _ c.segments.ensures.read _
    (says-left c.tell_pop.result _ (c.tell_pop.ensures.told (layer-in (props-of y) c.in_ok-inner.inner) ls (clip-told y e) (panel-told y e) refl o)))
