-- The recording is bucketed into what is lent, and its screen listed, or the refusal's line written.
use Rattle.std.proofs.Common.{refl}
use Rattle.sizes.proofs.Refusals.{not_done}
use Rattle.screen.specs.Lent.{tables_in}
use Rattle.screen.specs.Screens.{setup-of}
use Rattle.text.proofs.FileTexts.{text-refused, text-shown}
use Rattle.text.proofs.recording.recording_text.Goals as goal

pub returns-in-Err-clause-text : goal.returns-in-Err-clause-text
returns-in-Err-clause-text c =
    text-refused _ (setup-of _) (tables_in c.args.lent.now) _ c.no_screen-screen.ensures c.in-Err.ensures.recorded (not_done _) c.refuse.ensures

pub returns-clause-text : goal.returns-clause-text
returns-clause-text c =
    text-shown _ (setup-of _) (tables_in c.args.lent.now) _ c.no_screen-screen.ensures c.in_default.ensures.recorded refl c.show.ensures
