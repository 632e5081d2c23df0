use Rattle.std.proofs.Common.{ap, sym, ◌∙◌, ◌∷◌, map, string_bytes, codes, ◌≢◌, rules, arith}
use Rattle.text_programs.specs.Arguments.{number_of}
use Rattle.text_programs.proofs.Choices.{snapped, with_panels, widened, in_edition, unknown, ended}
use Rattle.text_programs.proofs.options.next_option.Goals as goal
use Rattle.text_programs.proofs.options.next_option.Goals.{in_default-via-in-text-2+else-panels_known, in_default-via-in_default}

pub returns-in-text-clause-shorter : goal.returns-in-text-clause-shorter
returns-in-text-clause-shorter c = let n = c.in_ok-word.ensures.cases.1 in omega arith

pub returns-in-text-clause-left : goal.returns-in-text-clause-left
returns-in-text-clause-left c = snapped _ _ _ _ (ap (map string_bytes) c.in_ok-word.ensures.cases.0) (sym c.as_str.ensures.value ∙ c.in-text.is)

pub returns-in-text-2-clause-shorter : goal.returns-in-text-2-clause-shorter
returns-in-text-2-clause-shorter c = let n = c.in_ok-word.ensures.cases.1 in omega arith

pub returns-in-text-2-clause-left : goal.returns-in-text-2-clause-left
returns-in-text-2-clause-left c =
    with_panels _ _ _ _ (ap (map string_bytes) c.in_ok-word.ensures.cases.0) (sym c.as_str.ensures.value ∙ c.in-text-2.is) c.if-panels_known.true

pub returns-in_ok-pixels-in-text-3-clause-shorter : goal.returns-in_ok-pixels-in-text-3-clause-shorter
returns-in_ok-pixels-in-text-3-clause-shorter c =
    let n = c.in_ok-word.ensures.cases.1 in
    let m = c.in_ok-text-in-text-3.ensures.cases.1 in
    omega arith

pub returns-in_ok-pixels-in-text-3-clause-left : goal.returns-in_ok-pixels-in-text-3-clause-left
returns-in_ok-pixels-in-text-3-clause-left c =
    let e = c.in_ok-word.ensures.cases.0 in
    let f = c.in_ok-text-in-text-3.ensures.cases.0 in
    widened _ _ _ _ _ (ap (map string_bytes) (e ∙ ap (λ xs. c.in_ok-word.word.now ∷ xs) f)) (sym c.as_str.ensures.value ∙ c.in-text-3.is) (ap number_of (sym c.as_str-in-text-3.ensures.value) ∙ sym c.in_ok-pixels-in-text-3.ensures)

pub returns-in_ok-edition-in-text-4-clause-shorter : goal.returns-in_ok-edition-in-text-4-clause-shorter
returns-in_ok-edition-in-text-4-clause-shorter c =
    let n = c.in_ok-word.ensures.cases.1 in
    let m = c.in_ok-text-in-text-4.ensures.cases.1 in
    omega arith

pub returns-in_ok-edition-in-text-4-clause-left : goal.returns-in_ok-edition-in-text-4-clause-left
returns-in_ok-edition-in-text-4-clause-left c =
    let e = c.in_ok-word.ensures.cases.0 in
    let f = c.in_ok-text-in-text-4.ensures.cases.0 in
    in_edition _ _ _ _ _ (ap (map string_bytes) (e ∙ ap (λ xs. c.in_ok-word.word.now ∷ xs) f)) (sym c.as_str.ensures.value ∙ c.in-text-4.is) (ap number_of (sym c.as_str-in-text-4.ensures.value) ∙ sym c.in_ok-edition-in-text-4.ensures)

pub returns-in_default-clause-left : goal.returns-in_default-clause-left
returns-in_default-clause-left c =
    let e = c.as_str.ensures.value in
    elim c.in_default.branch [
      | in_default-via-in-text-2+else-panels_known w ↦ unknown _ _ _ _ (ap (map string_bytes) c.in_ok-word.ensures.cases.0) (sym e ∙ w.in-text-2.is) w.if-panels_known.false
      | in_default-via-in_default w ↦
          let panels : c.as_str.result.now ≢ codes "--panels" = search rules in
          ended _ _ _ _ (ap (map string_bytes) c.in_ok-word.ensures.cases.0) (rw e at w.in_default.not-text) (rw e at panels) (rw e at w.in_default.not-text-3) (rw e at w.in_default.not-text-4)
    ]
