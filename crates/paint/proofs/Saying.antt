-- What is said of a command, and what its step then leaves. Assumes nothing.
use Rattle.std.proofs.Common.{◌≡◌, refl, sym, ap, ◌∙◌, Bool, true, false, ◌&&◌, eqb, List, [], ◌∷◌, ◌++◌, map, ◌⊎◌, inl, inr, Option, None, Some, ℕ, zero, suc, ◌+◌, ◌-◌, ◌*◌, ◌/◌, ◌%◌, ◌≤◌, ◌<◌, arith, length, lt-ltb, le-ltb, le-leb, eqb-true, eq-eqb}
use lib.ListN.{length-map}
use Rattle.sizes.specs.Sizes.{piece-size}
use Rattle.rules.specs.Lists.{join}
use Rattle.rules.specs.Spans.{Span, common, moved}
use Rattle.rules.specs.Depth.{Summary, tiles-of}
use Rattle.rules.specs.Commands.{paint-fill, layer-fill, push-buf, pop-buf}
use Rattle.cmd.specs.Reading.{word-span, good-span-word, good-alpha}
use Rattle.cmd.specs.Commands.{read-words}
use Rattle.cmd.specs.declared.command.CmdWords.{CmdWords}
use Rattle.rules.specs.Attributes.{Attrs}
use Rattle.rules.specs.Painting as rules
use Rattle.rules.specs.Painting.{Painter, fill-piece, paint-command}
use Rattle.depth.specs.Listing.{over}
use Rattle.rules.proofs.All.{and_both}
use Rattle.cmd.proofs.Commands.{tag-1, tag-2, tag-3, tag-4, tag-5, tag-6, tag-7}
use Rattle.paint.specs.Summaries.{shown_runs}
use Rattle.cmd.specs.Pieces.{tag-of, index_of, piece-words}
use Rattle.screen.specs.Depths.{depths}
use Rattle.paint.specs.Painting.{good-paint, good-layer, out, fill-shown, command-shown, command-step, settled, listed}
use Rattle.paint.specs.declared.command.marks.Mark.{Mark}
use Rattle.paint.specs.Reading.{paint_mark, layer_mark}
use Rattle.paint.proofs.Judging.{if_some}
use Rattle.paint.specs.Rows.{mark_in}
use Rattle.paint.proofs.Steps.{bare}
use Rattle.paint.specs.Kinds.{good-index, Fills, Shows, run-words, whole_words, Gives}

-- where the painting of a row stands
abbrev at-step : List ℕ → ℕ → ℕ → Painter
at-step D q m = record { buckets = D; steps = q; nesting = m }

stay : (a : Option ℕ) (n : ℕ) → moved a (n - n) ≡ a
stay None n = refl
stay (Some a) n = ap Some (omega arith)

-- the words of a fill
abbrev fill-words : Bool → Option ℕ → ℕ → ℕ → CmdWords
fill-words layer a w i = record { tag = tag-of layer a; span = record { 0 = w }; alpha = index_of a; attrs_idx = i }

-- at v tiles a bucket
module _ (v : ℕ) (attrs : Attrs) (u : Summary) (D : List ℕ) (m : ℕ) where
  -- a fill that is shown whole
  fill-whole : (layer : Bool) (a : Option ℕ) (w i id p q : ℕ) (M P l : List ℕ) → shown_runs v u D id (word-span w) ≡ word-span w ∷ [] → piece-size * 1 ≤ length l
      → settled (Some (fill-shown v attrs u layer id i p (word-span w) a (at-step D q m))) M (depths D M) P l
      ≡ out (listed 1) (depths D M) ((q + 1) ∷ m ∷ []) (over (whole_words (fill-words layer a w i) m p) l)
  unfolding fill-shown settled
  fill-whole layer a w i id p q M P l e h = rw (e, stay a (w / 65536), le-ltb (length l / piece-size) 1 (omega arith))

  -- the pieces of a fill's runs
  module _ (layer : Bool) (a : Option ℕ) (w i p : ℕ) where
    piece-same : (layer : Bool) (a : Option ℕ) (r : Span)
        → piece-words (fill-piece v attrs layer i p (word-span w) a m (common (word-span w) (tiles-of v r))) ≡ run-words v (fill-words layer a w i) m p r
    piece-same false None r = refl
    piece-same false (Some y) r = refl
    piece-same true None r = refl
    piece-same true (Some y) r = refl

    pieces-same : (rs : List Span)
        → join piece-words (map (fill-piece v attrs layer i p (word-span w) a m) (map (λ (r : Span). common (word-span w) (tiles-of v r)) rs))
        ≡ join (run-words v (fill-words layer a w i) m p) rs
    pieces-same [] = refl
    pieces-same (r ∷ rs) =
        let cut : List Span = map (λ (q : Span). common (word-span w) (tiles-of v q)) rs in
        ap (λ (ws : List ℕ). ws ++ join piece-words (map (fill-piece v attrs layer i p (word-span w) a m) cut)) (piece-same layer a r)
        ∙ ap (λ (ws : List ℕ). run-words v (fill-words layer a w i) m p r ++ ws) (pieces-same rs)

    fill-runs : (id q : ℕ) (M P l : List ℕ) (rs : List Span)
        → shown_runs v u D id (word-span w) ≡ map (λ (r : Span). common (word-span w) (tiles-of v r)) rs → piece-size * length rs ≤ length l
        → settled (Some (fill-shown v attrs u layer id i p (word-span w) a (at-step D q m))) M (depths D M) P l
        ≡ out (listed (length rs)) (depths D M) ((q + 1) ∷ m ∷ []) (over (join (run-words v (fill-words layer a w i) m p) rs) l)
    unfolding fill-shown settled
    fill-runs id q M P l rs e h =
        let n : length (map (fill-piece v attrs layer i p (word-span w) a m) (map (λ (r : Span). common (word-span w) (tiles-of v r)) rs)) ≡ length rs = rw (length-map, length-map) in
        rw (e, n, le-ltb (length l / piece-size) (length rs) (omega arith), pieces-same rs)

  module _ (c : CmdWords) where
    -- buffers
    gives-push : (s : Option Span) → m < 16 → read-words c ≡ Some (push-buf s) → Gives v attrs u D m c 0 [] (m + 1)
    unfolding command-step command-shown paint-command
    gives-push s h e = record { step = λ M q P l k. rw (e, lt-ltb m 16 h) (sym (bare D M P l false (at-step D (q + 1) (m + 1)) refl)) }

    gives-pop : 0 < m → read-words c ≡ Some pop-buf → Gives v attrs u D m c 0 [] (m - 1)
    unfolding command-step command-shown paint-command
    gives-pop h e = record { step = λ M q P l k. rw (e, lt-ltb 0 m h) (sym (bare D M P l false (at-step D (q + 1) (m - 1)) refl)) }

    module _ (ex : c.alpha ≡ 0) (ei : c.attrs_idx ≡ 0) where
      pub push-bare : c.tag ≡ 5 → c.span.0 ≡ 0 → m < 16 → Gives v attrs u D m c 0 [] (m + 1)
      push-bare et ew h = gives-push None h (sym (tag-5 _ _ _ _ true et (rw (eq-eqb _ _ ew, eq-eqb _ _ ex, eq-eqb _ _ ei))))

      pub push-tiles : c.tag ≡ 6 → good-span-word 8192 c.span.0 ≡ true → m < 16 → Gives v attrs u D m c 0 [] (m + 1)
      push-tiles et g h =
          gives-push (Some (word-span c.span.0)) h (sym (tag-6 _ _ _ _ true true et (rw (g, eq-eqb _ _ ex)) (eq-eqb _ _ ei)))

      pub pop-bare : c.tag ≡ 7 → c.span.0 ≡ 0 → 0 < m → Gives v attrs u D m c 0 [] (m - 1)
      pop-bare et ew h = gives-pop h (sym (tag-7 _ _ _ _ true et (rw (eq-eqb _ _ ew, eq-eqb _ _ ex, eq-eqb _ _ ei))))

    -- the words' step is that of a fill, with this id and panel
    pub record FillStep (k : Mark) : Type 0 where
      pub layer : Bool
      pub index : Option ℕ
      pub same : fill-words layer index c.span.0 c.attrs_idx ≡ c
      pub step : (q : ℕ) → command-step v attrs u (at-step D q m) (read-words c)
          ≡ Some (fill-shown v attrs u layer k.id c.attrs_idx k.panel (word-span c.span.0) index (at-step D q m))

    module _ (k : Mark) (f : FillStep k) where
      pub gives-whole : Shows v u D k.id c (word-span c.span.0 ∷ []) → Gives v attrs u D m c 1 (whole_words c m k.panel) m
      gives-whole s =
          record {
            step = λ M q P l h.
                ap (λ (o : Option rules.Painted). settled o M (depths D M) P l) (f.step q)
                ∙ fill-whole f.layer f.index c.span.0 c.attrs_idx k.id k.panel q M P l s.runs h
                ∙ ap (λ (e : CmdWords). out (listed 1) (depths D M) ((q + 1) ∷ m ∷ []) (over (whole_words e m k.panel) l)) f.same;
          }

      pub gives-runs : (rs : List Span) → Shows v u D k.id c (map (λ (r : Span). common (word-span c.span.0) (tiles-of v r)) rs)
          → Gives v attrs u D m c (length rs) (join (run-words v c m k.panel) rs) m
      gives-runs rs s =
          record {
            step = λ M q P l h.
                ap (λ (o : Option rules.Painted). settled o M (depths D M) P l) (f.step q)
                ∙ fill-runs f.layer f.index c.span.0 c.attrs_idx k.panel k.id q M P l rs s.runs h
                ∙ ap (λ (e : CmdWords). out (listed (length rs)) (depths D M) ((q + 1) ∷ m ∷ []) (over (join (run-words v e m k.panel) rs) l)) f.same;
          }

-- the four tags
four : (t : ℕ) → 0 < t → t ≤ 4 → (t ≡ 1) ⊎ ((t ≡ 2) ⊎ ((t ≡ 3) ⊎ (t ≡ 4)))
four zero h g = absurd (omega arith)
four (suc zero) h g = inl refl
four (suc (suc zero)) h g = inr (inl refl)
four (suc (suc (suc zero))) h g = inr (inr (inl refl))
four (suc (suc (suc (suc zero)))) h g = inr (inr (inr refl))
four (suc (suc (suc (suc (suc t))))) h g = absurd (omega arith)

module _ (c : CmdWords) (f : Fills c) where
  good-word : good-span-word 8192 c.span.0 ≡ true
  good-word = and_both _ _ (le-leb _ _ f.low) (le-leb _ _ f.high)

  solid : c.tag % 2 ≡ 1 → c.alpha ≡ 0
  solid e = let i : good-index c.tag c.alpha (c.span.0 % 65536 - c.span.0 / 65536) ≡ true = f.index in eqb-true c.alpha 0 (rw e at i)

  alpha : c.tag % 2 ≡ 0 → good-alpha c.alpha c.span.0 ≡ true
  alpha e = let i : good-index c.tag c.alpha (c.span.0 % 65536 - c.span.0 / 65536) ≡ true = f.index in (rw e at i)

  solid-word : c.tag % 2 ≡ 1 → (good-span-word 8192 c.span.0 && eqb c.alpha 0) ≡ true
  solid-word e = and_both _ _ good-word (eq-eqb _ _ (solid e))

  alpha-word : c.tag % 2 ≡ 0 → (good-span-word 8192 c.span.0 && good-alpha c.alpha c.span.0) ≡ true
  alpha-word e = and_both _ _ good-word (alpha e)

module _ (v : ℕ) (attrs : Attrs) (u : Summary) (D : List ℕ) (m : ℕ) (c : CmdWords) (k : Mark) (f : Fills c) where
  -- of a paint, and of a layer
  paint-step : paint_mark attrs c.attrs_idx ≡ Some k → (a : Option ℕ) → read-words c ≡ Some (paint-fill (word-span c.span.0) a c.attrs_idx) → (q : ℕ)
      → command-step v attrs u (at-step D q m) (read-words c)
      ≡ Some (fill-shown v attrs u false k.id c.attrs_idx k.panel (word-span c.span.0) a (at-step D q m))
  unfolding command-step command-shown
  paint-step g a e q = let o = if_some (good-paint attrs c.attrs_idx) _ k g in rw (e, o.1, o.0)

  layer-step : layer_mark attrs c.attrs_idx ≡ Some k → (a : Option ℕ) → read-words c ≡ Some (layer-fill (word-span c.span.0) a c.attrs_idx) → (q : ℕ)
      → command-step v attrs u (at-step D q m) (read-words c)
      ≡ Some (fill-shown v attrs u true k.id c.attrs_idx k.panel (word-span c.span.0) a (at-step D q m))
  unfolding command-step command-shown
  layer-step g a e q = let o = if_some (good-layer attrs c.attrs_idx) _ k g in rw (e, o.1, o.0)

  pub fill_step : 0 < c.tag → c.tag ≤ 4 → mark_in attrs c.tag c.attrs_idx ≡ Some k → FillStep v attrs u D m c k
  fill_step h g i = go (four c.tag h g)
    where
      go : (c.tag ≡ 1) ⊎ ((c.tag ≡ 2) ⊎ ((c.tag ≡ 3) ⊎ (c.tag ≡ 4))) → FillStep v attrs u D m c k
      go (inl e) =
          record { layer = false; index = None; same = rw (← e, ← solid c f (rw e)); step = paint-step (rw e at i) None (sym (tag-1 _ _ _ _ true e (solid-word c f (rw e)))) }
      go (inr (inl e)) =
          record { layer = false; index = Some c.alpha; same = rw (← e); step = paint-step (rw e at i) (Some c.alpha) (sym (tag-2 _ _ _ _ true e (alpha-word c f (rw e)))) }
      go (inr (inr (inl e))) =
          record { layer = true; index = None; same = rw (← e, ← solid c f (rw e)); step = layer-step (rw e at i) None (sym (tag-3 _ _ _ _ true e (solid-word c f (rw e)))) }
      go (inr (inr (inr e))) =
          record { layer = true; index = Some c.alpha; same = rw (← e); step = layer-step (rw e at i) (Some c.alpha) (sym (tag-4 _ _ _ _ true e (alpha-word c f (rw e)))) }
