-- What a reason says, and the theorems about it: the one that is given holds, none before it in the order does, and no other is the first.
-- At the screen's own width, for tile and row of a screen that was built from its reset by done steps, rows being compacted between them.
use Rattle.std.specs.Prelude.{ℕ, suc, ◌/◌, ◌≤◌, ◌<◌, ◌≡◌, ◌↔◌, Bool, true, false, ◌&&◌, cond, List, [], ◌∷◌}
use Rattle.std.specs.Prelude.{Option, None, Some}
use Rattle.rules.specs.Lists.{keep}
use Rattle.rules.specs.Answers.{Done}
use Rattle.rules.specs.Boxes.{Box, width, rows_of, good_viewport}
use Rattle.rules.specs.Rows.{Row, fresh-row}
use Rattle.rules.specs.Plans.{Frame, bucket, Step}
use Rattle.rules.specs.Steps.{Screen, reset}
use Rattle.rules.specs.Attributes.{Attrs}
use Rattle.rules.specs.Painting.{paint-panel, layer-panel, Entry, received}
use Rattle.rules.specs.Plain.{Told, Story, untold, tell-steps, plain}
use Rattle.rules.specs.Calls.{Canvas, begin-call}
use Rattle.rules.proofs.All.{All}
use Rattle.rules_picture.specs.Compacted.{Kept-up}
use Rattle.rules_picture.specs.Turns.{Turn, from, has-finished, painted}
use Rattle.rules_reason.specs.Reasons.{Reason, unknown-attribute, no-segment, cut-away, row-untouched, hidden-by, shown-at, Asked, Account, accounts, reason}

-- x stands at place n of a list, counted from 0
pub data Place {A : Type 0} : ℕ → List A → A → Type 0 where
  first : {x : A} {xs : List A} → Place 0 (x ∷ xs) x
  later : {n : ℕ} {x y : A} {xs : List A} → Place n xs x → Place (suc n) (y ∷ xs) x

-- an entry, or an account, of the asked attribute
pub record EntryOf (a : Asked) (e : Entry) : Type 0 where
  pub layer : e.layer ≡ a.layer
  pub attribute : e.attribute ≡ a.attribute

pub record AccountOf (a : Asked) (k : Account) : Type 0 where
  pub layer : k.layer ≡ a.layer
  pub attribute : k.attribute ≡ a.attribute

-- the entry at place p is the asked attribute's, of panel q
pub record Listed (a : Asked) (p q : ℕ) (es : List Entry) : Type 0 where
  pub entry : Entry
  pub at : Place p es entry
  pub of : EntryOf a entry
  pub panel : entry.panel ≡ q

-- no entry is
abbrev pub Unlisted : Asked → List Entry → Type 0
Unlisted a es = All (λ (e : Entry). EntryOf a e → ⊥) es

-- h is the attribute of the newest entry that hides, a draw's, and b its panel
pub data Newest : List Told → ℕ → ℕ → Type 0 where
  newest : {t : Told} {ts : List Told} → t.hides ≡ true → t.entry.layer ≡ false → All (λ (u : Told). u.hides ≡ false) ts
      → Newest (t ∷ ts) t.entry.attribute t.entry.panel
  older : {h b : ℕ} {t : Told} {ts : List Told} → Newest ts h b → Newest (t ∷ ts) h b

module _ (w : ℕ) (v : Box) (row tile : ℕ) (xs : List Step) (a : Asked) where
  -- what plain draw order has told the tile
  abbrev story : Story
  story = tell-steps w v row tile xs untold

  -- how many attributes of the asked kind there are
  abbrev pub attributes : ℕ
  attributes = cond a.layer story.layers story.paints

  -- the account of the asked attribute
  pub record Reckoned : Type 0 where
    pub place : ℕ
    pub account : Account
    pub at : Place place (accounts w v row tile xs untold) account
    pub of : AccountOf a account

  -- an entry of the asked attribute, of panel q, was told, is not in the tile's list, and h of panel b is the newest that hides
  pub record Hidden (h b q : ℕ) : Type 0 where
    pub place : ℕ
    pub told : Told
    pub at : Place place story.told told
    pub of : EntryOf a told.entry
    pub panel : told.entry.panel ≡ q
    pub gone : Unlisted a (plain w v row tile xs)
    pub hider : Newest story.told h b

  -- each reason by itself
  pub data Holds : Reason → Type 0 where
    unknown : attributes ≤ a.attribute → Holds unknown-attribute
    uncovered : (r : Reckoned) → r.account.covered ≡ false → Holds (no-segment r.account.panel)
    cut : (r : Reckoned) → r.account.kept ≡ false → Holds (cut-away r.account.panel)
    untouched : (r : Reckoned) → r.account.touched ≡ false → Holds (row-untouched r.account.panel)
    hidden : {h b q : ℕ} → Hidden h b q → Holds (hidden-by h b q)
    listed : {p q : ℕ} → Listed a p q (plain w v row tile xs) → Holds (shown-at p q)

-- the order of the reasons
unfoldable pub rank : Reason → ℕ
rank unknown-attribute = 0
rank (no-segment q) = 1
rank (cut-away q) = 2
rank (row-untouched q) = 3
rank (hidden-by h b q) = 4
rank (shown-at p q) = 5

-- r holds, and none before it
pub record First (w : ℕ) (v : Box) (row tile : ℕ) (xs : List Step) (a : Asked) (r : Reason) : Type 0 where
  pub holds : Holds w v row tile xs a r
  pub earlier : (s : Reason) → rank s < rank r → Holds w v row tile xs a s → ⊥

-- what is told, at its own width, of any screen built from its reset by done steps xs, rows being compacted between them, for any row and tile and any asked
-- attribute
abbrev pub Of-built : (ℕ → Box → ℕ → ℕ → List Step → Asked → Type 0) → Type 0
Of-built P =
    (f : Frame) (xs : List Step) (u : Screen Row) → good_viewport f.viewport ≡ true → Kept-up xs (reset fresh-row f) u
    → (row tile : ℕ) (a : Asked) → P (bucket f) f.viewport row tile xs a

-- an account tells one entry, of its own attribute and panel, exactly if it is covered, kept and touched
pub record TellsOwn (k : Account) : Type 0 where
  pub entry : Told
  pub layer : entry.entry.layer ≡ k.layer
  pub attribute : entry.entry.attribute ≡ k.attribute
  pub panel : entry.entry.panel ≡ k.panel
  pub told : k.told ≡ keep (k.covered && k.kept && k.touched) entry []

abbrev pub Told-exact : Type 0
Told-exact = Of-built (λ w v row tile xs a. All TellsOwn (accounts w v row tile xs untold))

-- exactly one reason is the first that holds: the one that is given
abbrev pub Reason-true : Type 0
Reason-true = Of-built (λ w v row tile xs a. First w v row tile xs a (reason w v row tile xs a) × ((r : Reason) → First w v row tile xs a r → r ≡ reason w v row tile xs a))

-- an unknown attribute is one that is not below the count of its kind
abbrev pub Unknown-exact : Type 0
Unknown-exact = Of-built (λ w v row tile xs a. (reason w v row tile xs a ≡ unknown-attribute) ↔ (attributes w v row tile xs a ≤ a.attribute))

-- shown at p, panel q: place p of the tile's list is an entry of that attribute and that panel
abbrev pub Shown-exact : Type 0
Shown-exact = Of-built (λ w v row tile xs a. (p q : ℕ) → (reason w v row tile xs a ≡ shown-at p q) ↔ Listed a p q (plain w v row tile xs))

-- hidden by h of panel b, panel q: an entry of that attribute and that panel was told, is not in the tile's list, and h of panel b is the newest
-- that hides
abbrev pub Hidden-exact : Type 0
Hidden-exact = Of-built (λ w v row tile xs a. (h b q : ℕ) → (reason w v row tile xs a ≡ hidden-by h b q) ↔ Hidden w v row tile xs a h b q)

-- the panel that a reason ends in
abbrev pub panel-in : Reason → Option ℕ
panel-in unknown-attribute = None
panel-in (no-segment q) = Some q
panel-in (cut-away q) = Some q
panel-in (row-untouched q) = Some q
panel-in (hidden-by h b q) = Some q
panel-in (shown-at p q) = Some q

-- the panel of a layer's attribute, or of a draw's
abbrev pub panel-at : Bool → ℕ → Attrs → ℕ
panel-at true i t = layer-panel t i
panel-at false i t = paint-panel t i

-- Beside the screen's attributes t: the reason ends in the asked attribute's panel, and what hides has its own
pub record Paneled (a : Asked) (r : Reason) (t : Attrs) : Type 0 where
  pub own : (q : ℕ) → panel-in r ≡ Some q → panel-at a.layer a.attribute t ≡ q
  pub hider : (h b q : ℕ) → r ≡ hidden-by h b q → paint-panel t h ≡ b

abbrev pub Panel-true : Type 0
Panel-true =
    (f : Frame) (xs : List Step) (u : Screen Row) → good_viewport f.viewport ≡ true → Kept-up xs (reset fresh-row f) u
    → (row tile : ℕ) (a : Asked) → Paneled a (reason (bucket f) f.viewport row tile xs a) u.state.attrs

-- Beside painting: where the reason is shown at p, the tile has received the attribute's entry at place p, with the reason's panel; where
-- it is any other, the tile has received no entry of the attribute
pub record Painted (a : Asked) (r : Reason) (es : List Entry) : Type 0 where
  pub shown : (p q : ℕ) → r ≡ shown-at p q → Listed a p q es
  pub other : ((p q : ℕ) → r ≡ shown-at p q → ⊥) → Unlisted a es

abbrev pub Reason-painted : Type 0
Reason-painted =
    (f : Frame) (xs : List Step) (k : Canvas) → good_viewport f.viewport ≡ true → Kept-up xs (reset fresh-row f) k.screen → (begin-call k).number ≡ Done
    → (ts : List Turn) (r t : ℕ) → r < rows_of f.viewport → t < width f.viewport / 4
    → has-finished (painted ts k).canvas r ≡ true
    → (a : Asked) → Painted a (reason (bucket f) f.viewport r t xs a) (received t (from r (painted ts k).log))
