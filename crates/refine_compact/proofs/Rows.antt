-- A compacted row's words are the words of the row that the rules compact. Assumes nothing.
use Rattle.std.proofs.Common.{◌≡◌, refl, sym, ap, ◌∙◌, true, Some, List, map, ℕ, ◌*◌, ◌≤◌, ◌<◌, arith, length, get_or, set, take, drop}
use lib.Seq.{map-set}
use borrow.Rule.Slice.PartMut.{put_mid, put_same}
use Rattle.rules.specs.Lists.{join}
use Rattle.rules.specs.Answers.{answer, Done}
use Rattle.rules.specs.Attributes.{Attrs}
use Rattle.rules.specs.Commands.{Command, paint-fill, layer-fill, push-buf, pop-buf, command_words}
use Rattle.rules.specs.Rows.{Row, fresh-row}
use Rattle.rules.specs.Compacted.{compacted, compact}
use Rattle.rules.proofs.All.{all-at}
use Rattle.rules_picture.proofs.Compacted.{less-room}
use Rattle.row.specs.Words.{Words, words}
use Rattle.rules.specs.Steps.{Screen}
use Rattle.row.specs.Arena.{Sizes, sizes, lay, with_row, Long}
use Rattle.row.proofs.RowsLaws.{within, put-length, lay-cut, cut-with}
use Rattle.refine_row.specs.Encode.{encode}
use Rattle.refine_row.proofs.Pads.{padded-fits, padded-length}
use Rattle.refine_row.proofs.Screens.{encode-sized, cut-screen, screen-long}
use Rattle.refine_steps.specs.Sound.{Fitting}
use Rattle.refine_steps.specs.Lent.{rows_of}
use Rattle.refine_steps.proofs.Tables.{join-length}
use Rattle.refine_paint.specs.Fair.{FairCommand, Fair}
use Rattle.refine_paint.proofs.Kept.{own-words}
use Rattle.refine_paint.proofs.Standing.{four, stands}
use Rattle.paint.proofs.ByRules.{Same}
use Rattle.compact.specs.Reading.{names-good}
use Rattle.compact.specs.Row.{row-with, row-read, with-commands, compact-words}
use Rattle.compact.specs.Call.{with-closed}
use Rattle.compact.proofs.ByRules.{read-by-rules, by-rules}

-- a fair command names an attribute that is good, if it names one
fair-named : (a : Attrs) (c : Command) → FairCommand a c → names-good a c ≡ true
fair-named a (paint-fill s x i) f = f.attributed
fair-named a (layer-fill s x i) f = f.attributed
fair-named a (push-buf s) f = refl
fair-named a pop-buf f = refl

module _ (v n c d : ℕ) (a : Attrs) (r : Row) where
  -- fewer commands, their words, and zeros behind them
  fewer : length r.commands ≤ c → with-commands (compacted v n a r) (encode c d r) ≡ encode c d (compact v n a r)
  unfolding encode
  fewer h =
      let cs = compacted v n a r in
      let long : length (join command_words cs) ≡ 4 * length cs = join-length command_words 4 four cs in
      let m : length (join command_words cs) ≤ 4 * c = let k = less-room v n a r in omega (arith, long, k, h) in
      rw (padded-length (4 * c) (join command_words r.commands), padded-fits (4 * c) (join command_words cs) m, long) refl

  -- what is read of a row's words is the row, as far as compacting reads it
  pub words-read : n < 65536 → Fitting c d r → Fair v a n r → (b : Attrs) → Same b a → row-read b n (encode c d r) ≡ Some (row-with r.fills r.commands)
  words-read few f h b s = read-by-rules v n a r (encode c d r) (stands a n c d few r f h) (λ k l. fair-named a _ (all-at h.commands k pop-buf l)) b s

  pub words-compacted : n < 65536 → Fitting c d r → Fair v a n r → (b : Attrs) → Same b a → compact-words v n b (encode c d r) ≡ answer Done (encode c d (compact v n a r))
  words-compacted few f h b s =
      by-rules v n a r (encode c d r) (stands a n c d few r f h) (λ k l. fair-named a _ (all-at h.commands k pop-buf l)) b s
      ∙ ap (λ (w : Words). answer Done w) (fewer f.commands)

-- row i's words put back among those of all rows, its depth fills as they were
module _ (s : Screen Row) (i : ℕ) (h : i < length s.rows) (q : Row) where
  abbrev c : ℕ
  c = s.state.frame.c

  abbrev d : ℕ
  d = s.state.frame.d

  abbrev k : Sizes
  k = sizes c d

  abbrev all : Words
  all = rows_of s

  long : Long k (length s.rows) all
  long = screen-long c d s.rows

  -- the whole with row i replaced is as long
  still-long : Long k (length s.rows) (with_row k i all (encode c d q))
  still-long =
      let z = encode-sized c d q in
      let n = length s.rows in
      record {
        state = put-length (i * 54) 54 all.state (encode c d q).state (rw long.state (within i n 54 h)) z.state ∙ long.state;
        render = put-length (i * (4 * c)) (4 * c) all.render (encode c d q).render (rw long.render (within i n (4 * c) h)) z.render ∙ long.render;
        fills = put-length (i * (2 * d)) (2 * d) all.fills (encode c d q).fills (rw long.fills (within i n (2 * d) h)) z.fills ∙ long.fills;
      }

  replaced : with_row k i all (encode c d q) ≡ lay (map (encode c d) (set s.rows i q))
  replaced =
      let z = encode-sized c d q in
      sym (lay-cut k (length s.rows) (with_row k i all (encode c d q)) still-long)
      ∙ ap lay
      (cut-with k (encode c d q) z.state z.render z.fills (length s.rows) i all long h
      ∙ ap (λ (ws : List Words). set ws i (encode c d q)) (cut-screen c d s.rows)
      ∙ sym (map-set (encode c d) s.rows i q))

  pub put-back : (encode c d q).fills ≡ (encode c d (get_or s.rows i fresh-row)).fills → with-closed c i all (encode c d q) ≡ lay (map (encode c d) (set s.rows i q))
  put-back e =
      let own : (encode c d q).fills ≡ take (2 * d) (drop (i * (2 * d)) all.fills) = e ∙ sym (ap (λ (w : Words). w.fills) (own-words s i h)) in
      let f : put_mid (i * (2 * d)) (2 * d) all.fills (encode c d q).fills ≡ all.fills = rw own (put_same (i * (2 * d)) (2 * d) all.fills) in
      ap (λ (fs : List ℕ). words (put_mid (i * 54) 54 all.state (encode c d q).state) (put_mid (i * (4 * c)) (4 * c) all.render (encode c d q).render) fs) (sym f)
      ∙ replaced
