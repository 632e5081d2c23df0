-- Room back in a crowded row: render commands that nothing will ever show are taken out of it. At w tiles a bucket.
use Rattle.std.specs.Prelude.{ℕ, ◌≡◌, Bool, true, false, not, cond, List, [], ◌∷◌, ◌++◌, get_or, set, replicate}
use Rattle.std.specs.Prelude.{Option}
use Rattle.rules.specs.Lists.{is-empty}
use Rattle.rules.specs.Answers.{Answer, first_of, settle, BadRun, Open}
use Rattle.rules.specs.Spans.{Span}
use Rattle.rules.specs.Commands.{Command, paint-fill, layer-fill, push-buf, pop-buf, DepthFill}
use Rattle.rules.specs.Attributes.{Attrs}
use Rattle.rules.specs.Rows.{Row, fresh-row}
use Rattle.rules.specs.Plans.{bucket, buckets-across}
use Rattle.rules.specs.Steps.{Screen}
use Rattle.rules.specs.Depth.{visible-runs, written}
use Rattle.rules.specs.Painting.{paint-id, layer-id}
use Rattle.rules.specs.Calls.{Canvas, no_row}

-- the newest id of each of n buckets: a row's depth words after all of its depth fills, written from the last to the first
abbrev pub newest-ids : Attrs → ℕ → List DepthFill → List ℕ
newest-ids a n [] = replicate n 0
newest-ids a n (f ∷ fs) = written (newest-ids a n fs) (paint-id a f.attribute) f.buckets

-- against the depth words bs
module _ (w : ℕ) (a : Attrs) (bs : List ℕ) where
  -- a fill of which no tile is visible
  abbrev pub is-hidden : Command → Bool
  is-hidden (paint-fill s x i) = is-empty (visible-runs w bs (paint-id a i) s)
  is-hidden (layer-fill s x i) = is-empty (visible-runs w bs (layer-id a i) s)
  is-hidden (push-buf s) = false
  is-hidden pop-buf = false

  -- one removal: of such a fill, or of a PushBuf directly followed by a PopBuf
  pub data Removed : List Command → List Command → Type 0 where
    a-fill : (front back : List Command) (c : Command) → is-hidden c ≡ true → Removed (front ++ (c ∷ back)) (front ++ back)
    a-buffer : (front back : List Command) (s : Option Span) → Removed (front ++ (push-buf s ∷ pop-buf ∷ back)) (front ++ back)

  -- again and again
  pub data Removes : List Command → List Command → Type 0 where
    nothing : {cs : List Command} → Removes cs cs
    one-more : {cs ds es : List Command} → Removed cs ds → Removes ds es → Removes cs es

  -- In one pass. st: the commands kept so far, the newest first
  abbrev pub kept : Command → List Command → List Command
  kept (paint-fill s x i) st = cond (is-hidden (paint-fill s x i)) st (paint-fill s x i ∷ st)
  kept (layer-fill s x i) st = cond (is-hidden (layer-fill s x i)) st (layer-fill s x i ∷ st)
  kept (push-buf s) st = push-buf s ∷ st
  kept pop-buf [] = pop-buf ∷ []
  kept pop-buf (paint-fill s x i ∷ st) = pop-buf ∷ paint-fill s x i ∷ st
  kept pop-buf (layer-fill s x i ∷ st) = pop-buf ∷ layer-fill s x i ∷ st
  kept pop-buf (push-buf s ∷ st) = st
  kept pop-buf (pop-buf ∷ st) = pop-buf ∷ pop-buf ∷ st

  abbrev pub passed : List Command → List Command → List Command
  passed st [] = st
  passed st (c ∷ cs) = passed (kept c st) cs

-- a list turned round, before another
abbrev pub turned-round : List Command → List Command → List Command
turned-round [] ds = ds
turned-round (c ∷ cs) ds = turned-round cs (c ∷ ds)

-- what is left of the commands of a row of n buckets, in their order
unfoldable pub compacted : ℕ → ℕ → Attrs → Row → List Command
compacted w n a r = turned-round (passed w a (newest-ids a n r.fills) [] r.commands) []

-- depth fills, open buffers and the depth summary stay
abbrev pub compact : ℕ → ℕ → Attrs → Row → Row
compact w n a r = record { commands = compacted w n a r; fills = r.fills; levels = r.levels; depth = r.depth }

-- .. and so does all else of a screen
abbrev pub compact-screen : ℕ → Screen Row → Screen Row
compact-screen i s =
    let f = s.state.frame in
    record {
      state = s.state;
      rows = set s.rows i (compact (bucket f) (buckets-across f) s.state.attrs (get_or s.rows i fresh-row));
    }

-- the call on row i: 12 for no such row, then 13 with a layer open. Done, it ends painting
unfoldable pub compact-call : ℕ → Canvas → Answer Canvas
compact-call i k =
    settle
    (first_of ((no_row k i, BadRun) ∷ (not (is-empty k.screen.state.layers), Open) ∷ []))
    k
    (record { screen = compact-screen i k.screen; begun = false; painters = k.painters })
