-- A done push and a done filter fill follow the story of a tile.
use Rattle.std.proofs.Common.{ℕ, suc, ◌+◌, ◌-◌, ◌/◌, ◌<◌, arith, ◌≡◌, refl, sym, ◌∙◌, ap, Bool, true, false, ◌&&◌, not, cond, None, List, [], ◌∷◌, ◌++◌, map, length, get_or, length-append}
use lib.ListN.{length-map}
use Rattle.rules.specs.Lists.{such, keep, is-empty}
use Rattle.rules.specs.Boxes.{Box, rows_in, span_of}
use Rattle.rules.specs.Spans.{covers, solid-tiles}
use Rattle.rules.specs.Segments.{Cut}
use Rattle.rules.specs.Inputs.{Props, Filter}
use Rattle.rules.specs.Attributes.{Attrs}
use Rattle.rules.specs.Rows.{Row, fresh-row, row-ops}
use Rattle.rules.specs.Plans.{Act, Put, on, touch, paint, draw-act, layer-box, touches-all, plan-push, filter-puts, plan-filter-in}
use Rattle.rules.specs.Steps.{Screen, do-puts, done}
use Rattle.rules.specs.Plain.{OpenLayer, Story, touch-all, box-now, tell, tell-push, in_rows}
use Rattle.rules.proofs.All.{never}
use Rattle.rules.proofs.laws.Changes.{puts-length}
use Rattle.rules_picture.proofs.Cases.{by}
use Rattle.rules_picture.proofs.Rows.{PaintHas}
use Rattle.rules_picture.proofs.Acts.{acts-at, do-acts, row-by-row}
use Rattle.rules_picture.proofs.Shape.{touched-layers}
use Rattle.rules_picture.proofs.Listed.{cut-act, rows-counted, acts-once}
use Rattle.rules_picture.proofs.Single.{Single, nothing, one}
use Rattle.rules_picture.proofs.Grown.{draw-grows, push-grows}
use Rattle.rules_picture.proofs.Follows.{Leads, Follows, new-paint}

module _ (w : ℕ) (attrs : Attrs) (t : ℕ) (v : Box) (row : ℕ) where
  -- an act put on the rows of a box
  pub box-acts : (a : Act) (b : Box) → acts-at row (map (on a) (rows_in b)) ≡ keep (in_rows w v row t b) a []
  box-acts a b = acts-once a row (rows-counted (b.y0 / 4) ((b.y1 + 3) / 4 - b.y0 / 4))

  pub push-acts : (c : Bool) (b : Box) → acts-at row (cond c (map (on touch) (rows_in b)) []) ≡ keep (c && in_rows w v row t b) touch []
  push-acts true b = box-acts touch b
  push-acts false b = refl

  pub push-follows : (p : Props) (o : Story) (s : Screen Row) → Follows w attrs t v row o s
      → Follows w attrs t v row (tell-push w v row t p o) (done Row row-ops (plan-push p s.state) s)
  unfolding done plan-push
  push-follows p o s f =
      let b = layer-box v (box-now v o.open-layers) p.clip in
      let l : OpenLayer = record { layer = record { props = p; bounds = b }; touched = false } in
      let c = touches-all p b && in_rows w v row t b in
      let g = push-grows w attrs t v row f.grown l refl c in
      let puts : List Put = cond (touches-all p b) (map (on touch) (rows_in b)) [] in
      let same : do-acts Row row-ops w (suc (length o.open-layers)) (keep c touch []) (get_or s.rows row fresh-row)
      ≡ get_or (do-puts Row row-ops w (suc (length o.open-layers)) puts s.rows) row fresh-row =
      sym (row-by-row Row row-ops w (suc (length o.open-layers)) row fresh-row puts s.rows f.there
      ∙ ap (λ (xs : List Act). do-acts Row row-ops w (suc (length o.open-layers)) xs (get_or s.rows row fresh-row)) (push-acts (touches-all p b) b)) in
      record {
        view = f.view;
        wide = f.wide;
        next = f.next;
        first = f.first;
        paints = f.paints;
        layers = f.layers;
        opened = rw (f.view, f.opened) (sym (touched-layers c (l ∷ o.open-layers)));
        there = rw (puts-length) f.there;
        grown = rw (f.view, f.wide, f.opened, length-map) (rw same at g);
      }

  pub cut-single : (b : Box) (c : Bool) → Single (such (λ (k : Cut). covers k.stretch.tiles t) (cond c (record { row = row; stretch = solid-tiles (span_of b) } ∷ []) []))
  cut-single b true = by (covers (span_of b) t) (λ y. rw y (one _)) (λ n. rw n nothing)
  cut-single b false = nothing

  pub cut-acts : (b : Box) (i id : ℕ) (c : Bool) → map (cut-act false i id) (cond c (record { row = row; stretch = solid-tiles (span_of b) } ∷ []) []) ≡ keep c (paint (span_of b) None i) []
  unfolding draw-act
  cut-acts b i id true = refl
  cut-acts b i id false = refl

  pub cut-some : (b : Box) (c : Bool) → not (is-empty {A = Cut} (cond c (record { row = row; stretch = solid-tiles (span_of b) } ∷ []) [])) ≡ c
  cut-some b true = refl
  cut-some b false = refl

  -- a filter that draws something in the box b
  pub filter-in : 0 < w → (n : ℕ) (x : Filter) (q : ℕ) (b : Box) (o : Story) (s : Screen Row) → Follows w attrs t v row o s
      → Leads w attrs t v row (plan-filter-in b n x q s.state).attrs
      → Follows w attrs t v row
      (record {
        next = o.next + 1;
        paints = o.paints + 1;
        layers = o.layers;
        open-layers = touch-all (in_rows w v row t b) o.open-layers;
        told = o.told ++ tell w v row t false o.paints q (length o.open-layers) o.next false (cond (in_rows w v row t b) (record { row = row; stretch = solid-tiles (span_of b) } ∷ []) []);
      })
      (done Row row-ops (plan-filter-in b n x q s.state) s)
  unfolding done plan-filter-in filter-puts
  filter-in pos n x q b o s f l =
      let st = s.state in
      let c = in_rows w v row t b in
      let ks : List Cut = cond c (record { row = row; stretch = solid-tiles (span_of b) } ∷ []) [] in
      let has : PaintHas attrs o.paints o.next q = rw (f.paints, f.next) at (new-paint w attrs t v row st.attrs.paints _ l.paints-more l.paints) in
      let g = draw-grows w attrs t v row pos f.grown f.first false o.paints q has (λ y. never (sym y)) ks (cut-single b c) in
      let puts = map (on (paint (span_of b) None o.paints)) (rows_in b) in
      let r = get_or s.rows row fresh-row in
      let same : do-acts Row row-ops w (length o.open-layers) (map (cut-act false o.paints o.next) ks) r
      ≡ get_or (do-puts Row row-ops w (length o.open-layers) puts s.rows) row fresh-row =
      ap (λ (xs : List Act). do-acts Row row-ops w (length o.open-layers) xs r) (cut-acts b o.paints o.next c ∙ sym (box-acts (paint (span_of b) None o.paints) b))
      ∙ sym (row-by-row Row row-ops w (length o.open-layers) row fresh-row puts s.rows f.there) in
      record {
        view = f.view;
        wide = f.wide;
        next = ap (λ m. m + 1) f.next;
        first = omega arith;
        paints = rw length-append (ap (λ m. m + 1) f.paints);
        layers = f.layers;
        opened = f.opened ∙ sym (touched-layers c o.open-layers);
        there = rw puts-length f.there;
        grown = rw (f.wide, f.paints, f.opened, length-map) (rw (cut-some b c, same) at g);
      }
