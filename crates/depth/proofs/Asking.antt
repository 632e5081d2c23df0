-- What the definition of the question says of each way through the code. Assumes nothing.
use Rattle.std.proofs.Common.{◌≡◌, ◌∙◌, Bool, true, false, List, ℕ, ◌≤◌, ◌<◌, arith, length, eqb, eqb-true}
use Rattle.rules.specs.Answers.{answer}
use Rattle.rules.specs.Spans.{Span, bad-range}
use Rattle.rules.specs.Minima.{half, minima-room, halvings, hidden-in, hidden_answer}
use Rattle.depth.specs.Minima.{hidden-asked}
use Rattle.depth.proofs.Answering.{backward, past, good}
use Rattle.depth.proofs.Groups.{room-of-some, hidden-none}

module _ (ws : List ℕ) (n : ℕ) (r : Span) (id : ℕ) (fit : eqb (length ws) (minima-room n) ≡ true) where
  bad : bad-range n r ≡ true → answer 12 false ≡ hidden-asked ws n r id
  unfolding hidden_answer
  bad e = rw (fit, e)

  pub asked-backward : r.end < r.first → answer 12 false ≡ hidden-asked ws n r id
  asked-backward h = bad (backward n r h)

  pub asked-past : n < r.end → answer 12 false ≡ hidden-asked ws n r id
  asked-past h = bad (past n r h)

  module _ (h : r.first ≤ r.end) (g : r.end ≤ n) where
    pub asked-found : (x : Bool) → x ≡ hidden-in (halvings n) ws r.first r.end id → answer 0 x ≡ hidden-asked ws n r id
    unfolding hidden_answer
    asked-found x e = rw (fit, good n r h g, e)

    pub asked-none : r.end ≤ r.first → answer 0 true ≡ hidden-asked ws n r id
    asked-none e = asked-found true (hidden-none (halvings n) ws r.first r.end id e)

    pub asked-group : r.first < r.end → length ws ≡ half (halvings n)
    asked-group e = eqb-true (length ws) (minima-room n) fit ∙ room-of-some n (omega arith)
