-- What is listed of a file's bytes, and its text.
use Rattle.std.proofs.Common.{◌≡◌, ℕ, ◌+◌, ◌*◌, ◌≤◌, refl, sym, ap, ◌∙◌, arith, Bool, true, false, ◌||◌, cond, List, [], ◌∷◌, ◌++◌, Option, None, Some, Result, Ok, Err, length, length-append, drop, ltb, ne_eqb}
use Rattle.sizes.specs.Sizes.{piece-size}
use Rattle.sizes.specs.declared.answers.Refusal.{Refusal}
use Rattle.sizes.specs.declared.edition.Edition.{Edition}
use Rattle.sizes.specs.declared.width.Width.{Width}
use Rattle.sizes.specs.Refusals.{number_of}
use Rattle.sizes.proofs.Refusals.{not_done}
use Rattle.rules.specs.Lists.{join, is_none}
use Rattle.rules.specs.Answers.{Answer, BadForm}
use Rattle.rules.specs.Setups.{Mode}
use Rattle.rules.specs.Recording.{in-edition, parsed}
use Rattle.rules.specs.Lines.{words_of, digits}
use Rattle.rules.specs.Painting.{Entry}
use Rattle.rules_reason.specs.Answers.{refused-bytes}
use Rattle.rules_reason.specs.TileList.{most-entries, tile-list, entry-bytes, answer-bytes, list-text, bad-long-form, no-width-text, list-line}
use Rattle.text.specs.Bytes.{piece-room, details-text}
use Rattle.text.specs.Files.{no-width-of}
use Rattle.text.specs.Pieces.{pieces-at}
use Rattle.text.proofs.Lengths.{plus, digits-few}
use Rattle.text_long.specs.Long.{words-of-long}
use Rattle.text_long.proofs.Words.{by-words}
use Rattle.tile.specs.Listed.{list-told, Listed, listed-as, listed-over, room-in}
use Rattle.refine_tile.proofs.ListRules.{list-rules}
use Rattle.text_list.specs.Texts.{words-listed, bytes-listed, no-width-told}
use Rattle.text_list.proofs.EntryLines.{lines-laid, words-laid, words-long, entries-few}

-- where a call has left its answer a in a list
module _ (t : ℕ) (a : Answer (List Entry)) (old new : List ℕ) where
  module _ (n : ℕ) (h : listed-as (Ok n) new ≡ listed-over t a old) where
    count-same : n ≡ length a.value
    count-same = ap (λ (l : Listed). l.count) h

    words-same : new ≡ words-laid t a.value ++ drop (length (words-laid t a.value)) old
    words-same = ap (λ (l : Listed). l.list) h

    entries-text : details-text true (pieces-at new n) ≡ join (entry-bytes t) a.value
    entries-text = rw (words-same, count-same) (lines-laid t a.value _)

    pub done-text : details-text true (pieces-at new n) ≡ answer-bytes t a
    done-text =
        let number : 0 ≡ a.number = ap (λ (l : Listed). l.number) h in
        entries-text ∙ rw (← number) refl

    pub within : piece-size * n ≤ length new
    within =
        let long : length new ≡ length (words-laid t a.value) + length (drop (length (words-laid t a.value)) old) = ap length words-same ∙ length-append (words-laid t a.value) _ in
        omega (arith, long, words-long t a.value, count-same)

    pub text-few : length new ≡ piece-size * most-entries → length (details-text true (pieces-at new n)) ≤ piece-room * most-entries
    text-few room =
        let few = entries-few t a.value in
        rw entries-text (omega (arith, few, within, count-same, room))

  pub refused-same : (r : Refusal) → listed-as (Err r) new ≡ listed-over t a old → refused-bytes (number_of r) ≡ answer-bytes t a
  refused-same r h =
      let number : number_of r ≡ a.number = ap (λ (l : Listed). l.number) h in
      rw (← number, ne_eqb (number_of r) 0 (not_done r)) refl

module _ (e : Edition) (m : Mode) (w : Width) (bs : List ℕ) (row tile : ℕ) where
  -- the rules' text is that of what is listed
  pub text-told : answer-bytes tile (bytes-listed e m w bs row tile) ≡ list-text e m w bs row tile
  unfolding list-text
  text-told = sym (by-words (refused-bytes BadForm) (λ ws. answer-bytes tile (tile-list m w (in-edition e ws) row tile most-entries)) bs ∙ go (words-of-long bs))
    where
      go : (o : Option (List ℕ)) → elim o [ None ↦ refused-bytes BadForm | Some ws ↦ answer-bytes tile (tile-list m w (in-edition e ws) row tile most-entries) ]
          ≡ answer-bytes tile (words-listed e m w row tile o)
      go None = refl
      go (Some ws) = refl

  -- the words are listed by the rules
  pub some-listed : (ws : List ℕ) → words-of-long bs ≡ Some ws → (r : Result ℕ Refusal) (old new : List ℕ) → length old ≡ piece-size * most-entries
      → listed-as r new ≡ listed-over tile (list-told m w (in-edition e ws) row tile (room-in old)) old → listed-as r new ≡ listed-over tile (bytes-listed e m w bs row tile) old
  some-listed ws h r old new room l = rw h (rw (room, list-rules m w (in-edition e ws) row tile most-entries) at l)

-- where the width is none
module _ (e : Edition) (bs : List ℕ) where
  form-told : bad-long-form e bs ≡ elim (words-of-long bs) [ None ↦ true | Some ws ↦ is_none (parsed (in-edition e ws)) ]
  form-told = go (ltb 1048576 (length bs))
    where
      go : (b : Bool) → (b || elim (words_of bs) [ None ↦ true | Some ws ↦ is_none (parsed (in-edition e ws)) ])
          ≡ elim (cond b None (words_of bs)) [ None ↦ true | Some ws ↦ is_none (parsed (in-edition e ws)) ]
      go true = refl
      go false = refl

  pub words-told : (ws : List ℕ) → words-of-long bs ≡ Some ws → no-width-of (in-edition e ws) ≡ no-width-told e bs
  unfolding no-width-of
  words-told ws h = rw (form-told, h)

  pub width-told : refused-bytes (no-width-told e bs) ≡ no-width-text e bs
  unfolding no-width-text
  width-told = refl

pub line-few : (i : ℕ) → length (list-line i) ≤ 26
unfolding list-line
line-few i =
    let x = plus {a = 20} {b = 1} (digits 20 i) (10 ∷ []) (digits-few 20 i) (omega arith) in
    omega (arith, x)
