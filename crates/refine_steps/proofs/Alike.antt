-- A plan made from the screen's numbers does what the rules' plan does. Assumes nothing.
use Rattle.std.proofs.Common.{◌≡◌, refl, sym, ap, ◌∙◌, Bool, true, false, List, [], ◌∷◌, ◌++◌, map, ℕ, length, drop, replicate, length-append, drop_at}
use lib.ListN.{length-replicate}
use Rattle.rules.specs.Lists.{is-empty}
use Rattle.rules.specs.Answers.{Answer, Done}
use Rattle.rules.specs.Boxes.{Box}
use Rattle.rules.specs.Rows.{Row, row-ops}
use Rattle.rules.specs.Plans.{Layer, State, Plan, clip-box, box_of}
use Rattle.rules.specs.Steps as rule
use Rattle.rules.specs.Steps.{done, refusal, perform}
use Rattle.rules.proofs.All.{All}
use Rattle.rules.proofs.laws.Answers.{settle-number, settle-done}
use Rattle.rules.proofs.laws.Bounds.{BoundedSpan}
use Rattle.rules.proofs.laws.Maps.{PutOk, screen-by, answer-by, follows-perform}
use Rattle.row.specs.Words.{Words, word-ops}
use Rattle.row.specs.Arena.{lay}
use Rattle.row.specs.Building.{rows_at, screen-at, good_rows, step_number}
use Rattle.refine_row.specs.Encode.{encode}
use Rattle.refine_row.proofs.Refines.{refines}
use Rattle.rules.specs.Attributes.{no-paint}
use Rattle.screen.specs.Screens.{some-filter, layer-in, state-of, screen-after}
use Rattle.refine_steps.specs.Sound.{Sound}
use Rattle.refine_steps.specs.Lent.{screen-of, rows_of}
use Rattle.refine_steps.proofs.Judged.{rows_cut}
use Rattle.refine_steps.proofs.Records.{records-good}

-- xs, which has been made of as many places as there are in old ones, and ys are grown by the same
pub record Grown {A : Type 0} (z : A) (old xs ys : List A) : Type 0 where
  pub new : List A
  pub given : xs ≡ replicate (length old) z ++ new
  pub ours : ys ≡ old ++ new

module _ {A : Type 0} {z : A} {old xs ys : List A} (g : Grown z old xs ys) where
  pub grown-length : length xs ≡ length ys
  grown-length = rw (g.given, g.ours) (simp (length-append, length-replicate) refl)

  -- what is new
  pub grown-new : drop (length old) xs ≡ g.new
  grown-new = rw g.given (drop_at (replicate (length old) z) g.new (length old) (length-replicate (length old) z))

-- p, made from the screen's numbers, and q, made from the state s of the rules
pub record Alike (s : State) (p q : Plan) : Type 0 where
  pub refused : p.refused ≡ q.refused
  pub next : p.next ≡ q.next
  pub puts : p.puts ≡ q.puts
  pub deep : length p.layers ≡ length q.layers
  pub clip : clip-box s.frame.viewport p.layers ≡ clip-box s.frame.viewport q.layers
  pub paints : Grown no-paint s.attrs.paints p.attrs.paints q.attrs.paints
  pub layers : length p.attrs.layers ≡ length q.attrs.layers
  pub filters : Grown some-filter s.attrs.filters p.attrs.filters q.attrs.filters

-- the state of the screen's numbers
module _ (s : State) (b : Bool) where
  clip-same : (v : Box) (ls : List Layer) → clip-box v (replicate (length ls) (layer-in (clip-box v ls))) ≡ clip-box v ls
  clip-same v [] = refl
  clip-same v (l ∷ ls) = refl

  pub box-same : box_of (state-of (screen-of s b)) ≡ box_of s
  unfolding state-of
  box-same = clip-same s.frame.viewport s.layers

  empty-as : {A : Type 0} (z : A) (xs : List Layer) → is-empty (replicate (length xs) z) ≡ is-empty xs
  empty-as z [] = refl
  empty-as z (x ∷ xs) = refl

  pub empty-same : is-empty (state-of (screen-of s b)).layers ≡ is-empty s.layers
  unfolding state-of
  empty-same = empty-as _ s.layers

-- x: a state with the screen's frame
module _ (s : rule.Screen Row) (h : Sound s) (x : State) (f : x.frame ≡ s.state.frame) (p q : Plan) (a : Alike s.state p q) (o : q.refused ≡ Done → All (PutOk BoundedSpan) q.puts) where
  abbrev words-screen : rule.Screen Words
  words-screen = screen-by (encode s.state.frame.c s.state.frame.d) s

  abbrev here : rule.Screen Words
  here = screen-at x (rows_of s)

  here-rows : here.rows ≡ words-screen.rows
  here-rows = rw f (rows_cut s h)

  done-rows : (done Words word-ops p here).rows ≡ (done Words word-ops q words-screen).rows
  unfolding done
  done-rows = rw (here-rows, f, a.deep, a.puts)

  same-refusal : refusal Words word-ops p (done Words word-ops p here) ≡ refusal Words word-ops q (done Words word-ops q words-screen)
  unfolding refusal done
  same-refusal = rw (here-rows, f, a.refused, a.next, a.deep, a.puts, grown-length a.paints, a.layers, grown-length a.filters)

  performed : perform Words word-ops q words-screen ≡ answer-by (screen-by (encode s.state.frame.c s.state.frame.d)) (perform Row row-ops q s)
  performed = (follows-perform (refines s.state.frame.c s.state.frame.d) q o s h.built.fine).0

  rules-refusal : refusal Words word-ops q (done Words word-ops q words-screen) ≡ refusal Row row-ops q (done Row row-ops q s)
  unfolding perform
  rules-refusal =
      sym (settle-number (refusal Words word-ops q (done Words word-ops q words-screen)) words-screen (done Words word-ops q words-screen))
      ∙ ap (λ (x : Answer (rule.Screen Words)). x.number) performed
      ∙ settle-number (refusal Row row-ops q (done Row row-ops q s)) s (done Row row-ops q s)

  -- the rules' number
  pub plan-number : refusal Words word-ops p (done Words word-ops p here) ≡ refusal Row row-ops q (done Row row-ops q s)
  plan-number = same-refusal ∙ rules-refusal

  rules-rows : refusal Row row-ops q (done Row row-ops q s) ≡ Done
      → (done Words word-ops q words-screen).rows ≡ map (encode s.state.frame.c s.state.frame.d) (done Row row-ops q s).rows
  unfolding perform
  rules-rows e =
      sym (ap (λ (x : rule.Screen Words). x.rows) (settle-done (refusal Words word-ops q (done Words word-ops q words-screen)) words-screen (done Words word-ops q words-screen) (rules-refusal ∙ e)))
      ∙ ap (λ (x : Answer (rule.Screen Words)). x.value.rows) performed
      ∙ ap (λ (x : rule.Screen Row). map (encode s.state.frame.c s.state.frame.d) x.rows) (settle-done (refusal Row row-ops q (done Row row-ops q s)) s (done Row row-ops q s) e)

  -- the words of the rules' rows
  pub plan-rows : refusal Row row-ops q (done Row row-ops q s) ≡ Done → lay (done Words word-ops p here).rows ≡ rows_of (done Row row-ops q s)
  unfolding done
  plan-rows e = ap lay (done-rows ∙ rules-rows e)

  -- a step's number, where the tests before say nothing
  pub number_is : (k : ℕ) (g : Bool) → k ≡ 0 → g ≡ true → step_number k g p here ≡ refusal Row row-ops q (done Row row-ops q s)
  unfolding step_number
  number_is k g z t = rw (z, t) plan-number

-- the state of the screen's numbers
state-frame : (s : State) (b : Bool) → (state-of (screen-of s b)).frame ≡ s.frame
unfolding state-of
state-frame s b = refl

module _ (s : rule.Screen Row) (h : Sound s) (b : Bool) (p q : Plan) (a : Alike s.state p q) (o : q.refused ≡ Done → All (PutOk BoundedSpan) q.puts) where
  -- the screen's numbers afterwards
  pub plan-screen : screen-after (screen-of s.state b) p ≡ screen-of (done Row row-ops q s).state false
  unfolding screen-after done
  plan-screen = rw (a.next, a.deep, a.clip, grown-length a.paints, a.layers, grown-length a.filters)

  pub rows_is : refusal Row row-ops q (done Row row-ops q s) ≡ Done → lay (done Words word-ops p (screen-at (state-of (screen-of s.state b)) (rows_of s))).rows ≡ rows_of (done Row row-ops q s)
  rows_is e = plan-rows s h (state-of (screen-of s.state b)) (state-frame s.state b) p q a o e

  -- .. of a step that judges the records of the rows that it puts on
  pub step_is : (k : ℕ) → k ≡ 0
      → step_number k (good_rows s.state.frame (length s.state.layers) p.puts (rows_at s.state.frame (rows_of s))) p (screen-at (state-of (screen-of s.state b)) (rows_of s)) ≡ refusal Row row-ops q (done Row row-ops q s)
  step_is k z =
      let g = records-good s.state.frame (length s.state.layers) p.puts s.rows (λ j. (h.rows j, (h.reaching.rows j).few)) h.built.fine in
      number_is s h (state-of (screen-of s.state b)) (state-frame s.state b) p q a o k _ z (rw (rows_cut s h) g)
