-- The line of an account: what is told of an attribute into a line's words says what the rules' account of it says.
use Rattle.std.proofs.Common.{ℕ, suc, ◌+◌, ◌/◌, ◌≡◌, refl, sym, ◌∙◌, ap, Bool, true, false, ◌&&◌, not, cond, Option, None, Some, List, [], ◌∷◌, ◌++◌, append-nil, append_assoc, length}
use Rattle.rules.specs.Lists.{keep, some_of, is-empty, is_none}
use Rattle.rules.specs.Answers.{Done}
use Rattle.rules.specs.Boxes.{Box, span_of}
use Rattle.rules.specs.Spans.{covers, solid-tiles}
use Rattle.rules.specs.Segments.{Segment, judge-segments, Cut}
use Rattle.rules.specs.Inputs.{Paint, Draw, draw-segments, draw-paint, good-fill, Clip, Filter}
use Rattle.rules.specs.Plans.{Step, a-fill, a-push, a-pop, a-filter, eligible, clip-segments, clip-fits, filter-box, draws-nothing}
use Rattle.rules.specs.Plain.{Told, OpenLayer, Story, box-now, here, closers, in_rows, tell, tell-step, tell-steps}
use Rattle.rules.proofs.All.{head}
use Rattle.rules.proofs.laws.Bounds.{judged-facts}
use Rattle.rules_picture.proofs.Cases.{by}
use Rattle.rules_reason.specs.Reasons.{Account, account-fill, account-pop, account-filter, account-step, accounts, covering, keeping, meets, layer-covers, layer-keeps}
use Rattle.tile.specs.Telling as told
use Rattle.tile.specs.Telling.{Line, standing-of, draw-line, closing-line, no-look, look, closing-look, met, in_row}
use Rattle.tile.specs.Listed.{entry_of}
use Rattle.refine_tile.specs.Retold.{Says, Say, said, says}
use Rattle.refine_tile.proofs.Rows.{rows-met, tiles-met, Even, meets-scene}
use Rattle.refine_tile.proofs.Looks.{looked, and-implied}
use Rattle.refine_tile.proofs.Inside.{Inside, PopFits, Fits, step-inside, Fitting, no_step, and_then}

pub say-length : {ks : List Account} {ls : List Line} → Say ks ls → length ls ≡ length ks
say-length said = refl
say-length (says s r) = ap suc (say-length r)

say-append : {ks js : List Account} {ls ms : List Line} → Say ks ls → Say js ms → Say (ks ++ js) (ls ++ ms)
say-append said r = r
say-append (says s q) r = says s (say-append q r)

and-true : (b : Bool) → (b && true) ≡ b
and-true true = refl
and-true false = refl

keep-when : {A : Type 0} (b c : Bool) (x : A) → cond c (keep b x []) [] ≡ keep (b && c) x []
keep-when true true x = refl
keep-when false true x = refl
keep-when true false x = refl
keep-when false false x = refl

module _ (w : ℕ) (v : Box) (row tile : ℕ) where
  -- The lines of the steps, for attribute i of panel q with n layers open: of a draw with the segments `own` under the clip box c
  abbrev pub fill-line : Box → List Segment → Bool → ℕ → ℕ → ℕ → Line
  fill-line c own e i n q = draw-line (look w v row tile c no-look own) e i n q

  -- .. of a closing layer
  abbrev pub pop-line : Option Clip → Box → Box → List Segment → Bool → ℕ → ℕ → ℕ → Line
  pop-line c own parent ss touched i n q = closing-line (closing-look w v row tile c own parent ss) touched i n q

  -- .. of a filter fill in the box b
  abbrev pub filter-line : Box → Filter → ℕ → ℕ → ℕ → Line
  filter-line b f i n q = told.filter-line (met f.dest (row + v.y0 / 4) (tile + v.x0 / 4)) (met b row tile) i n q

  abbrev pub fill-lines : List Paint → List Segment → Draw → Story → List Line
  fill-lines ps ss d o =
      let own = draw-segments ss d in
      let e = eligible (is-empty o.open-layers) (draw-paint ps d) d in
      cond (is-empty own) [] (fill-line (box-now v o.open-layers) own e o.paints (length o.open-layers) d.panel ∷ [])

  abbrev pub pop-lines : List OpenLayer → List Segment → Story → List Line
  pop-lines [] ss o = []
  pop-lines (l ∷ ls) ss o = pop-line l.layer.props.clip l.layer.bounds (box-now v ls) ss l.touched o.layers (suc (length ls)) l.layer.props.panel ∷ []

  abbrev pub filter-lines : Filter → ℕ → Story → List Line
  filter-lines f q o =
      let b = filter-box v (box-now v o.open-layers) f in
      cond (draws-nothing f b) [] (filter-line b f o.paints (length o.open-layers) q ∷ [])

  unfoldable pub step_lines : Step → Story → List Line
  step_lines (a-fill ps ss d) o = fill-lines ps ss d o
  step_lines (a-push p) o = []
  step_lines (a-pop ss) o = pop-lines o.open-layers ss o
  step_lines (a-filter n f q) o = filter-lines f q o

  unfoldable pub all_lines : List Step → Story → List Line
  all_lines [] o = []
  all_lines (x ∷ xs) o = step_lines x o ++ all_lines xs (tell-step w v row tile x o)

  fill-says : (ps : List Paint) (ss : List Segment) (d : Draw) (o : Story) → judge-segments (not (good-fill ps ss d)) (draw-segments ss d) ≡ Done
      → Say (account-fill w v row tile ps ss d o) (fill-lines ps ss d o)
  fill-says ps ss d o j =
      let own = draw-segments ss d in
      let c = box-now v o.open-layers in
      let e = eligible (is-empty o.open-layers) (draw-paint ps d) d in
      let (_, good, ord) = judged-facts (not (good-fill ps ss d)) own j in
      let k = look w v row tile c no-look own in
      let r = looked w v row tile c own good ord in
      let ks = here w v row tile o.open-layers own in
      let h = e && is_none k.alpha && k.whole in
      let st : standing-of k.covered k.kept true h ≡ standing-of (some_of (covering w v row tile) own) (some_of (keeping w v row tile) ks) true h =
      rw (r.covered, r.kept) in
      let to : tell w v row tile false o.paints d.panel (length o.open-layers) o.next e ks
      ≡ keep (some_of (covering w v row tile) own && some_of (keeping w v row tile) ks && true) (record { entry = entry_of (fill-line c own e o.paints (length o.open-layers) d.panel); id = o.next; hides = h }) [] =
      r.told false o.paints d.panel (length o.open-layers) o.next e ∙ rw (r.covered, r.kept, and-true) in
      by (is-empty own)
      (λ y. rw y said)
      (λ n. rw n (says (record { id = o.next; hides = h; layer = refl; attribute = refl; standing = st; panel = refl; told = to }) said))

  -- without a clip a touched row is a row of the layer's box, and so its span alone says which tiles are told
  span-told : (own : Box) (t : Told) (b : Bool) → (b ≡ true → in_row own row ≡ true)
      → cond b (keep (covers (span_of own) tile) t []) [] ≡ keep (met own row tile && b) t []
  span-told own t false f = rw (and-false (met own row tile))
    where
      and-false : (b : Bool) → (b && false) ≡ false
      and-false true = refl
      and-false false = refl
  span-told own t true f = rw (f refl, and-true)

  abbrev closing-account : Option Clip → Box → List OpenLayer → List Segment → Bool → ℕ → ℕ → ℕ → ℕ → Account
  closing-account c own ls ss touched i n q id =
      record {
        layer = true;
        attribute = i;
        covered = layer-covers w v row tile c ss;
        kept = layer-keeps w v row tile c own ls ss;
        touched = touched;
        told = cond touched (tell w v row tile true i q n id false (closers w v row tile c own ls ss)) [];
        panel = q;
      }

  closing-says : (c : Option Clip) (own : Box) (ls : List OpenLayer) (ss : List Segment) (b : Bool) (i n q id : ℕ)
      → judge-segments (not (clip-fits c ss)) (clip-segments c ss) ≡ Done → (b ≡ true → in_row own row ≡ true)
      → Says (closing-account c own ls ss b i n q id) (pop-line c own (box-now v ls) ss b i n q)
  closing-says None own ls ss b i n q id j f =
      let t : Told = record { entry = entry_of (pop-line None own (box-now v ls) ss b i n q); id = id; hides = false } in
      let st : standing-of true (met own row tile) b false ≡ standing-of true (meets w v row tile own row tile) b false = rw (tiles-met w v row tile own row tile) in
      let one : tell w v row tile true i q n id false (closers w v row tile None own ls ss) ≡ keep (covers (span_of own) tile) t [] =
      by (covers (span_of own) tile) (λ y. rw y) (λ m. rw m) in
      let to : cond b (tell w v row tile true i q n id false (closers w v row tile None own ls ss)) [] ≡ keep (meets w v row tile own row tile && b) t [] =
      rw (one, tiles-met w v row tile own row tile) (span-told own t b f) in
      record { id = id; hides = false; layer = refl; attribute = refl; standing = st; panel = refl; told = to }
  closing-says (Some c) box ls ss b i n q id j f =
      let own = clip-segments (Some c) ss in
      let (_, good, ord) = judged-facts (not (clip-fits (Some c) ss)) own j in
      let p = box-now v ls in
      let k = look w v row tile p no-look own in
      let r = looked w v row tile p own good ord in
      let ks = here w v row tile ls own in
      let st : standing-of k.covered k.kept b false ≡ standing-of (some_of (covering w v row tile) own) (some_of (keeping w v row tile) ks) b false =
      rw (r.covered, r.kept) in
      let t : Told = record { entry = entry_of (pop-line (Some c) box p ss b i n q); id = id; hides = false } in
      let to : cond b (tell w v row tile true i q n id false ks) [] ≡ keep (some_of (covering w v row tile) own && some_of (keeping w v row tile) ks && b) t [] =
      ap (λ (ts : List Told). cond b ts []) (r.told true i q n id false) ∙ keep-when (k.covered && k.kept) b t ∙ rw (r.covered, r.kept) in
      record { id = id; hides = false; layer = refl; attribute = refl; standing = st; panel = refl; told = to }

  pop-says : (ls : List OpenLayer) (ss : List Segment) (o : Story) → o.open-layers ≡ ls → PopFits ls ss → Inside v row ls
      → Say (account-pop w v row tile ls ss o) (pop-lines ls ss o)
  unfolding PopFits
  pop-says [] ss o q f i = absurd f
  pop-says (l ∷ ls) ss o q f i =
      let n : length o.open-layers ≡ suc (length ls) = ap (λ (xs : List OpenLayer). length xs) q in
      rw n (says (closing-says l.layer.props.clip l.layer.bounds ls ss l.touched o.layers (suc (length ls)) l.layer.props.panel o.next f (head i.touched)) said)

  filter-says : Even v → (f : Filter) (q : ℕ) (o : Story) → Say (account-filter w v row tile f q o) (filter-lines f q o)
  filter-says ev f q o =
      let c = box-now v o.open-layers in
      let b = filter-box v c f in
      let d = met f.dest (row + v.y0 / 4) (tile + v.x0 / 4) in
      let n = length o.open-layers in
      let ks : List Cut = cond (in_rows w v row tile b) (record { row = row; stretch = solid-tiles (span_of b) } ∷ []) [] in
      let t : Told = record { entry = entry_of (filter-line b f o.paints n q); id = o.next; hides = false } in
      let st : standing-of d (met b row tile) true false ≡ standing-of (meets w v row tile f.dest (row + v.y0 / 4) (tile + v.x0 / 4)) (meets w v row tile b row tile) true false =
      rw (tiles-met w v row tile f.dest (row + v.y0 / 4) (tile + v.x0 / 4), tiles-met w v row tile b row tile) in
      let to : tell w v row tile false o.paints q n o.next false ks
      ≡ keep (meets w v row tile f.dest (row + v.y0 / 4) (tile + v.x0 / 4) && meets w v row tile b row tile && true) t [] =
      rw (tiles-met w v row tile f.dest (row + v.y0 / 4) (tile + v.x0 / 4), tiles-met w v row tile b row tile, and-true, and-implied d (met b row tile) (meets-scene v c f.dest row tile ev), rows-met b row)
      (by (in_row b row)
      (λ y. rw y (by (covers (span_of b) tile) (λ z. rw z) (λ z. rw z)))
      (λ m. rw m)) in
      by (draws-nothing f b)
      (λ y. rw y said)
      (λ m. rw m (says (record { id = o.next; hides = false; layer = refl; attribute = refl; standing = st; panel = refl; told = to }) said))

  -- a step that fits says what its account says
  step-says : Even v → (x : Step) (o : Story) → Fits x o → Inside v row o.open-layers → Say (account-step w v row tile x o) (step_lines x o)
  unfolding Fits account-step step_lines
  step-says ev (a-fill ps ss d) o f i = fill-says ps ss d o f
  step-says ev (a-push p) o f i = said
  step-says ev (a-pop ss) o f i = pop-says o.open-layers ss o refl f i
  step-says ev (a-filter n g q) o f i = filter-says ev g q o

  pub steps-say : Even v → {xs : List Step} {o : Story} → Fitting w v row tile xs o → Inside v row o.open-layers → Say (accounts w v row tile xs o) (all_lines xs o)
  unfolding accounts all_lines
  steps-say ev no_step i = said
  steps-say ev (and_then {x = x} {o = o} f fs) i = say-append (step-says ev x o f i) (steps-say ev fs (step-inside w v row tile ev x o f i))

  pub lines_more : (x : Step) (xs : List Step) (o : Story) → all_lines (xs ++ (x ∷ [])) o ≡ all_lines xs o ++ step_lines x (tell-steps w v row tile xs o)
  unfolding all_lines tell-steps
  lines_more x [] o = append-nil (step_lines x o)
  lines_more x (y ∷ xs) o =
      rw (lines_more x xs (tell-step w v row tile y o))
      (sym (append_assoc (step_lines y o) (all_lines xs (tell-step w v row tile y o)) (step_lines x (tell-steps w v row tile xs (tell-step w v row tile y o)))))
