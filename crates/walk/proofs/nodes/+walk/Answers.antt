use Rattle.std.proofs.Common.{arith, rules, ◌∙◌, ◌-◌, refl}
use Rattle.std.proofs.lemmas.Result.{err_from_is_err_and}
use Rattle.sizes.proofs.Refusals.{not_done}
use Rattle.file.specs.Held.{held}
use Rattle.file.specs.Records.{layer-of, node-of}
use Rattle.walk.proofs.Places.{node-range, layer-fit}
use Rattle.walk.proofs.Layers.{as-filter, not-pushed, no-depth, not-walked, closed, names-none, names-one}
use Rattle.walk.proofs.NodeRuns.{all_walked, draws_refused, layer_refused, node_turned}
use Rattle.walk.proofs.nodes.+walk.Goals as goal

pub walk_layer-returns-then-layer-eq0-clause-walked : goal.walk_layer-returns-then-layer-eq0-clause-walked
walk_layer-returns-then-layer-eq0-clause-walked t c = names-none (held c.args.file.now) _ _ _ c.if-layer-eq0.true

pub walk_layer-returns-then-record-ne0-clause-walked : goal.walk_layer-returns-then-record-ne0-clause-walked
walk_layer-returns-then-record-ne0-clause-walked t c =
    let fit = layer-fit (held c.args.file.now) c.requires.ready.good (c.args.layer - 1) (omega arith) (c.layer-record.ensures _) in
    let kind = fit.kind in
    c.walk_filter.ensures.walked
    ∙ as-filter _ (layer-of c.layer-record.result) _ (omega arith) _
    ∙ names-one (held c.args.file.now) _ _ _ (c.layer-record.ensures _) c.if-layer-eq0.false

pub walk_layer-walk_filter-requires-clause-layer : goal.walk_layer-walk_filter-requires-clause-layer
walk_layer-walk_filter-requires-clause-layer t c = (c.args.layer - 1, omega arith, c.layer-record.ensures)

pub walk_layer-pop_at-requires-clause-layer : goal.walk_layer-pop_at-requires-clause-layer
walk_layer-pop_at-requires-clause-layer t c = (c.args.layer - 1, omega arith, c.layer-record.ensures)

pub walk_layer-returns-in_err-push_at-clause-walked : goal.walk_layer-returns-in_err-push_at-clause-walked
walk_layer-returns-in_err-push_at-clause-walked t c =
    let p = err_from_is_err_and c.from_residual.result c.from_residual.ensures.1 in
    rw (p.1, p.2)
    (not-pushed (held c.args.file.now) (layer-of c.layer-record.result) c.if-record-ne0.false _ _ _
    (c.in_err-push_at.ensures.pushed _ c.to_props.ensures.props) _ (not_done _)
    ∙ names-one (held c.args.file.now) _ _ _ (c.layer-record.ensures _) c.if-layer-eq0.false)

pub walk_layer-returns-then-depth-eq0-clause-walked : goal.walk_layer-returns-then-depth-eq0-clause-walked
walk_layer-returns-then-depth-eq0-clause-walked t c =
    no-depth (held c.args.file.now) (layer-of c.layer-record.result) c.if-record-ne0.false _ _ _
    (c.in_ok-push_at.ensures.pushed _ c.to_props.ensures.props) _ c.if-depth-eq0.true
    ∙ names-one (held c.args.file.now) _ _ _ (c.layer-record.ensures _) c.if-layer-eq0.false

pub walk_layer-walk_nodes-requires : goal.walk_layer-walk_nodes-requires
walk_layer-walk_nodes-requires t c =
    let fit = layer-fit (held c.args.file.now) c.requires.ready.good (c.args.layer - 1) (omega arith) (c.layer-record.ensures _) in
    (omega arith, (c.requires.ready, (fit.order, fit.ends)))

pub walk_layer-returns-in_err-walk_nodes-clause-walked : goal.walk_layer-returns-in_err-walk_nodes-clause-walked
walk_layer-returns-in_err-walk_nodes-clause-walked t c =
    let p = err_from_is_err_and c.from_residual-in_err-walk_nodes.result c.from_residual-in_err-walk_nodes.ensures.1 in
    rw (p.1, p.2)
    (not-walked (held c.args.file.now) (layer-of c.layer-record.result) c.if-record-ne0.false _ _ _
    (c.in_ok-push_at.ensures.pushed _ c.to_props.ensures.props) _ c.if-depth-eq0.false refl _ _
    c.in_err-walk_nodes.ensures.walked (not_done _)
    ∙ names-one (held c.args.file.now) _ _ _ (c.layer-record.ensures _) c.if-layer-eq0.false)

pub walk_layer-returns-clause-walked : goal.walk_layer-returns-clause-walked
walk_layer-returns-clause-walked t c =
    closed (held c.args.file.now) (layer-of c.layer-record.result) c.if-record-ne0.false _ _ _
    (c.in_ok-push_at.ensures.pushed _ c.to_props.ensures.props) _ c.if-depth-eq0.false refl _ _
    c.in_ok-walk_nodes.ensures.walked refl _
    c.pop_at.ensures.popped
    ∙ names-one (held c.args.file.now) _ _ _ (c.layer-record.ensures _) c.if-layer-eq0.false

pub walk_nodes-walk_draws-requires : goal.walk_nodes-walk_draws-requires
walk_nodes-walk_draws-requires t c =
    let r = node-range (held c.args.file.now) c.requires.ready.good c.loop-i.i (omega arith) (c.node-node.ensures _) in
    record { ready = c.requires.ready; order = r.0; ends = r.1.0 }

pub walk_nodes-returns-in_err-walk_draws-clause-walked : goal.walk_nodes-returns-in_err-walk_draws-clause-walked
walk_nodes-returns-in_err-walk_draws-clause-walked t c =
    let p = err_from_is_err_and c.from_residual.result c.from_residual.ensures.1 in
    rw (p.1, p.2)
    (draws_refused (held c.args.file.now) _ _ _ _ c.loop-i-test.true c.requires.ends (node-of c.node-node.result) (c.node-node.ensures _) _ _
    c.in_err-walk_draws.ensures.walked (not_done _)
    ∙ c.loop-i.invariant.1)

pub walk_nodes-walk_layer-requires : goal.walk_nodes-walk_layer-requires
walk_nodes-walk_layer-requires t c =
    let r = node-range (held c.args.file.now) c.requires.ready.good c.loop-i.i (omega arith) (c.node-node.ensures _) in
    (omega arith, (c.requires.ready, r.1.1))

pub walk_nodes-returns-in_err-walk_layer-clause-walked : goal.walk_nodes-returns-in_err-walk_layer-clause-walked
walk_nodes-returns-in_err-walk_layer-clause-walked t c =
    let p = err_from_is_err_and c.from_residual-in_err-walk_layer.result c.from_residual-in_err-walk_layer.ensures.1 in
    rw (p.1, p.2)
    (layer_refused (held c.args.file.now) _ _ _ _ c.loop-i-test.true c.requires.ends (node-of c.node-node.result) (c.node-node.ensures _) _ _
    c.in_ok-walk_draws.ensures.walked refl _ _ c.in_err-walk_layer.ensures.walked (not_done _)
    ∙ c.loop-i.invariant.1)

pub walk_nodes-loop-i-preserved : goal.walk_nodes-loop-i-preserved
walk_nodes-loop-i-preserved t c = (
  search rules,
  node_turned (held c.args.file.now) _ _ _ _ c.loop-i-test.true c.requires.ends (node-of c.node-node.result) (c.node-node.ensures _) _ _
      c.in_ok-walk_draws.ensures.walked refl _ _ c.in_ok-walk_layer.ensures.walked refl
      ∙ c.loop-i.invariant.1,
)

pub walk_nodes-returns-clause-walked : goal.walk_nodes-returns-clause-walked
walk_nodes-returns-clause-walked t c =
    all_walked (held c.args.file.now) _ _ _ _ c.loop-i-test.false ∙ c.loop-i.invariant.1
