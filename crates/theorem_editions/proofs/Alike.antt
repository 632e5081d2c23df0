-- What is made of a file by its recording alone is the same for files that say the same recording.
use Rattle.std.proofs.Common.{ℕ, ◌≡◌, refl, ap, cond, List, Option, None, Some, option_map, eqb}
use Rattle.rules.specs.Answers.{Done}
use Rattle.rules.specs.Setups.{Setup}
use Rattle.rules.specs.Recording.{File, in-edition, parsed, recording}
use Rattle.rules_reason.specs.Reasons.{Asked}
use Rattle.screen.specs.Tables.{ScreenLent}
use Rattle.walk.specs.Recorded.{of-sections, recorded}
use Rattle.tile.specs.Explained.{no-reason, explained-in, explained}
use Rattle.convert.proofs.Theorems.{same-recording}
use Rattle.theorem_editions.specs.Recordings.{SameCall, SameReason}

played : (o p : Option (List (List (List ℕ)))) → option_map recording o ≡ option_map recording p → (q : Setup) (l : ScreenLent) → of-sections o q l ≡ of-sections p q l
played None None h q l = refl
played None (Some ss) h q l = cc
played (Some ss) None h q l = cc
played (Some ss) (Some ts) h q l = let e : recording ss ≡ recording ts = cc in rw e

told : (o p : Option (List (List (List ℕ)))) → option_map recording o ≡ option_map recording p → (q : Setup) (row tile : ℕ) (a : Asked) (l : ScreenLent)
    → explained-in q o row tile a l ≡ explained-in q p row tile a l
told None None h q row tile a l = refl
told None (Some ss) h q row tile a l = cc
told (Some ss) None h q row tile a l = cc
told (Some ss) (Some ts) h q row tile a l = let e : recording ss ≡ recording ts = cc in rw e

module _ (f g : File) (h : option_map recording (parsed f) ≡ option_map recording (parsed g)) (q : Setup) (l : ScreenLent) where
  recorded-alike : recorded f q l ≡ recorded g q l
  unfolding recorded
  recorded-alike = played (parsed f) (parsed g) h q l

  explained-alike : (row tile : ℕ) (a : Asked) → explained f q row tile a l ≡ explained g q row tile a l
  unfolding explained
  explained-alike row tile a = rw recorded-alike (let b = recorded g q l in ap (λ x. cond (eqb b.number Done) x (no-reason b.number b.value)) (told (parsed f) (parsed g) h q row tile a b.value))

pub same-call : SameCall
same-call d e m ws vs h q l = recorded-alike (in-edition e vs) (in-edition d ws) (same-recording d e m ws vs h) q l

pub same-reason : SameReason
same-reason d e m ws vs h q row tile a l = explained-alike (in-edition e vs) (in-edition d ws) (same-recording d e m ws vs h) q l row tile a
