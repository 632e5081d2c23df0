-- Rows by one call on a host's words are calls of `coarse_paint_row` on them. Assumes nothing.
use Rattle.std.proofs.Common.{ℕ, ◌≡◌, ap, Bool, List, [], ◌∷◌, Option}
use Rattle.rules.specs.Answers.{Answer}
use Rattle.rules.specs.Plans.{Frame, Step}
use Rattle.screen.specs.declared.Screen.{Screen}
use Rattle.screen.specs.Depths.{Depths}
use Rattle.screen.specs.Tables.{ScreenLent}
use Rattle.paint.specs.declared.rows.RowRange.{RowRange}
use Rattle.host.specs.State.{screen-words}
use Rattle.host.specs.Painting.{step_call, row_call}
use Rattle.host.specs.PaintRows.{RowsLeft, rows_held, paint_rows_call}
use Rattle.host.proofs.Words.{read_back}
use Rattle.theorem_picture.specs.Reached as reached
use Rattle.theorem_picture.specs.Rows as rows
use Rattle.theorem_picture.specs.ManyRows as many
use Rattle.theorem_picture.proofs.ManyRows.{rows-calls}
use Rattle.theorem_border.specs.Held.{host-of}
use Rattle.theorem_border.specs.Hosted.{Host, host, Call, one-step, whole_row, HostedBy, by-paint, own-attributes, own-words, with-painting, paint-out, paint-at}
use Rattle.theorem_border.specs.ManyRows.{rows-out, rows-at}
use Rattle.theorem_border.proofs.Holds.{holds}
use Rattle.theorem_border.proofs.Words.{on-screen}

-- a painting call of picture's as a host makes it
abbrev call-in : rows.Call → Call
call-in (rows.one-step t) = one-step (record { row = t.row; list = t.list; result = 0 ∷ 0 ∷ [] })
call-in (rows.whole_row t) = whole_row (record { row = t.row; list = t.list; result = 0 ∷ 0 ∷ [] })

abbrev Painted : Type 0
Painted = Depths × List ℕ × List ℕ × List ℕ

lent : (k : rows.Call) (l : ScreenLent) → paint-at (call-in k) (host-of l) ≡ host-of (rows.after_call k l)
unfolding paint-out step_call row_call reached.paint-out rows.row_out
lent (rows.one-step t) l =
    ap (λ (a : Answer Painted). host (screen-words l.screen) (with-painting l.tables a.value.0 a.value.1)) (on-screen {T = Painted} _ _ l.screen)
lent (rows.whole_row t) l =
    ap (λ (a : Answer Painted). host (screen-words l.screen) (with-painting l.tables a.value.0 a.value.1)) (on-screen {T = Painted} _ _ l.screen)

carry : (ks : List rows.Call) {c : Bool} {f : Frame} {xs : List Step} (l : ScreenLent) → HostedBy c f xs (host-of l) → HostedBy c f xs (host-of (rows.called ks l))
unfolding rows.called
carry [] l h = h
carry (k ∷ ks) l h = let j = by-paint (call-in k) h in carry ks (rows.after_call k l) (rw (lent k l) at j)

rows-on : (r : RowRange) (list ends : List ℕ) (l : ScreenLent) → rows-at r list ends (host-of l) ≡ host-of (many.rows-at r list ends l)
unfolding rows-out paint_rows_call many.rows-given
rows-on r list ends l =
    let h = host-of l in
    let put : Answer RowsLeft → Host = λ a. host (screen-words l.screen) (with-painting l.tables a.value.0 a.value.1) in
    ap (λ (s : Option Screen). put (rows_held r (own-attributes h) s (screen-words l.screen) (own-words list h) ends)) (read_back l.screen)

pub rows-hosted : (r : RowRange) (list ends : List ℕ) {c : Bool} {f : Frame} {xs : List Step} {h : Host} → HostedBy c f xs h → HostedBy c f xs (rows-at r list ends h)
rows-hosted r list ends {c} {f} {xs} {h} k =
    let z = holds k in
    let l = z.words in
    let s : HostedBy c f xs (host-of l) = rw z.same at k in
    let q = rows-calls l r list ends in
    let m = carry q.calls l s in
    rw (z.same, rows-on r list ends l) (rw q.words at m)
