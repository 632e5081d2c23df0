-- A row compacted at the screen that a host's words stand for is one compacted at the words; refused at the border, the call's own 2 and 1 come first.
use Rattle.std.proofs.Common.{◌≡◌, refl, ap, ◌∙◌, Bool, true, false, cond, List, Option, None, Some, ℕ, arith, eqb}
use Rattle.sizes.specs.Widths.{bucket-tiles}
use Rattle.rules.specs.Answers.{Answer, answer, Done}
use Rattle.rules_picture.proofs.Cases.{by}
use Rattle.rules_picture.proofs.Walked.{Late, late-done}
use Rattle.row.specs.Words.{Words}
use Rattle.row.specs.Arena.{sizes, row_at}
use Rattle.screen.specs.declared.Screen.{Screen}
use Rattle.paint.specs.Judging.{wide}
use Rattle.paint.specs.Painting.{attrs-at}
use Rattle.paint.specs.Stepping.{Attributes}
use Rattle.paint.proofs.Kept.{Refused}
use Rattle.compact.specs.Row.{or-forged, compact-words}
use Rattle.compact.specs.Call.{compact_number, stored, closed-in, row-compacted, ended, compacting}
use Rattle.compact.proofs.Call.{compact-kept}
use Rattle.host.specs.State.{screen-words, screen_of, before_4, refused_at, at_held}
use Rattle.host.specs.Compacted.{compact-left, compact_call}
use Rattle.host.proofs.Words.{refused-on, written_back}
use Rattle.host.proofs.Kept.{at-screen}
use Rattle.host.proofs.Early.{after}

-- what is read of the row refuses by 4
read-late : (w : Words) (o : Option Words) → Late (or-forged w o).number
read-late w None = λ e. omega arith
read-late w (Some u) = late-done

module _ (s : Screen) (r : ℕ) (a : Attributes) (w : Words) where
  closed-late : (x : Answer Words) → Late x.number → Late (closed-in s.c r w x).number
  closed-late x h = by (eqb x.number Done) (λ y. rw y late-done) (λ z. rw z h)

  abbrev u : Answer Words
  u = row-compacted s r (attrs-at a.paints s.paint_attrs a.layers s.layer_attrs) w

  abbrev x : Answer Words
  x = compact-words (bucket-tiles s.width) (wide s) (attrs-at a.paints s.paint_attrs a.layers s.layer_attrs) (row_at (sizes s.c s.d) r w)

  own-late : Late x.number
  unfolding compact-words
  own-late = read-late (row_at (sizes s.c s.d) r w) _

  row-late : Late u.number
  row-late = closed-late x own-late

  ended-number : (b : Bool) (n : ℕ) → cond b u.number n ≡ (cond b (ended s u) (answer n (stored s w))).number
  ended-number true n = refl
  ended-number false n = refl

  pub compact-early : before_4 (compact_number s r w a) ≡ before_4 (compacting r a (stored s w)).number
  unfolding compacting
  compact-early =
      let n = compact_number s r w a in
      after n u.number row-late ∙ ap before_4 (ended-number (eqb n Done) n)

-- where the host's words stand for no screen
pub compact_unheld : (st : List ℕ) (n r : ℕ) (a : Attributes) (w : Words) → None ≡ screen_of true st
    → n ≡ refused_at st (λ (s : Screen). compact_number s r w a) → answer n (st, w) ≡ compact_call r a st w
unfolding compact_call
compact_unheld st n r a w h q =
    refused-on (screen_of true st) st (st, w) (λ (s : Screen). compact-left (compacting r a (stored s w))) (λ (s : Screen). compact_number s r w a) n h q
    (λ (s : Screen). compact-early s r a w)

-- where they stand for s
pub compact_built : (st st' : List ℕ) (s s' : Screen) (m n : ℕ) → Some s ≡ screen_of true st → m ≡ n → st' ≡ screen-words s'
    → (r : ℕ) (a : Attributes) (w w' : Words) → answer n (stored s' w') ≡ compacting r a (stored s w) → answer m (st', w') ≡ compact_call r a st w
unfolding compact_call
compact_built st st' s s' m n h rn sw r a w w' e =
    rw (rn, sw)
    (ap compact-left e ∙ ap (λ (x : Option Screen). at_held x st (st, w) (λ (s : Screen). compact-left (compacting r a (stored s w)))) h)

-- refused, it leaves everything as it was
pub compact-refused : (r : ℕ) (a : Attributes) (st : List ℕ) (w : Words) → Refused (compact_call r a st w) → (compact_call r a st w).value ≡ (st, w)
unfolding compact_call
compact-refused r a st w =
    at-screen true st (st, w) (λ (s : Screen). compact-left (compacting r a (stored s w)))
    (λ s e q. rw (compact-kept r a (stored s w) q, written_back true st s e))
