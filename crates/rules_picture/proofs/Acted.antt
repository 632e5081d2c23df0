-- What one act of a step adds to what a row holds for the tile t.
use Rattle.std.proofs.Common.{ℕ, zero, suc, ◌+◌, ◌-◌, ◌/◌, ◌≤◌, ◌<◌, zero-add, add-one, arith, ◌≡◌, refl, sym, ◌∙◌, ap, Bool, true, false, Option, None, Some, List, [], ◌∷◌, ◌++◌, append_assoc}
use Rattle.std.proofs.Common.{append-nil, length, get_or, set, length-append, length-set, get_or-set_same, get_or-set_other, eqb, eqb-true}
use lib.ListN.{get_or-append}
use lib.Seq.{get_or-append_seam}
use borrow.Author.Tests.{eqb-false}
use Rattle.rules.specs.Lists.{keep, times}
use Rattle.rules.specs.Spans.{Span, covers}
use Rattle.rules.specs.Commands.{Command, paint-fill, layer-fill, push-buf, pop-buf, DepthFill}
use Rattle.rules.specs.Attributes.{Attrs}
use Rattle.rules.specs.Rows.{Row, Level, row-ops, include, adds, put-command, put-push-buf, pop-levels, put-pop-buf, put-depth-fill}
use Rattle.rules.specs.Painting.{paint-id}
use Rattle.rules.specs.Plans.{paint, touch, close, pop}
use Rattle.rules.specs.Steps.{ensure, do-act}
use Rattle.rules.specs.Plain.{Told}
use Rattle.rules.proofs.All.{All, nil, cons, all_map, all_append, never}
use Rattle.rules_picture.proofs.Cases.{by}
use Rattle.rules_picture.proofs.Rows.{fill-told, told-fills, paint-told, layer-told, told-commands, Numbered}
use Rattle.rules_picture.proofs.Summed.{Summed, depth-summed}

-- the nesting after some commands
unfoldable pub nest : ℕ → List Command → ℕ
nest n [] = n
nest n (paint-fill s a i ∷ cs) = nest n cs
nest n (layer-fill s a i ∷ cs) = nest n cs
nest n (push-buf s ∷ cs) = nest (n + 1) cs
nest n (pop-buf ∷ cs) = nest (n - 1) cs

pub nest-append : (n : ℕ) (cs ds : List Command) → nest n (cs ++ ds) ≡ nest (nest n cs) ds
unfolding nest
nest-append n [] ds = refl
nest-append n (paint-fill s a i ∷ cs) ds = nest-append n cs ds
nest-append n (layer-fill s a i ∷ cs) ds = nest-append n cs ds
nest-append n (push-buf s ∷ cs) ds = nest-append (n + 1) cs ds
nest-append n (pop-buf ∷ cs) ds = nest-append (n - 1) cs ds

abbrev pub is-push : Command → Bool
is-push (paint-fill s a i) = false
is-push (layer-fill s a i) = false
is-push (push-buf s) = true
is-push pop-buf = false

-- a push's span does not matter to the nesting ..
nest-set : (n : ℕ) (cs : List Command) (i : ℕ) (u : Option Span) → is-push (get_or cs i pop-buf) ≡ true → nest n (set cs i (push-buf u)) ≡ nest n cs
unfolding nest
nest-set n [] i u e = refl
nest-set n (paint-fill s a j ∷ cs) zero u e = never (sym e)
nest-set n (layer-fill s a j ∷ cs) zero u e = never (sym e)
nest-set n (push-buf s ∷ cs) zero u e = refl
nest-set n (pop-buf ∷ cs) zero u e = never (sym e)
nest-set n (paint-fill s a j ∷ cs) (suc i) u e = nest-set n cs i u e
nest-set n (layer-fill s a j ∷ cs) (suc i) u e = nest-set n cs i u e
nest-set n (push-buf s ∷ cs) (suc i) u e = nest-set (n + 1) cs i u e
nest-set n (pop-buf ∷ cs) (suc i) u e = nest-set (n - 1) cs i u e

keep-before : {X : Type 0} (b : Bool) (x : X) (xs ys : List X) → keep b x (xs ++ ys) ≡ keep b x xs ++ ys
keep-before true x xs ys = refl
keep-before false x xs ys = refl

-- the PushBuf of an open level stands at its place
pub record Pushed (cs : List Command) (l : Level) : Type 0 where
  pub there : l.place < length cs
  pub push : is-push (get_or cs l.place pop-buf) ≡ true

-- the levels of a row are its open buffers
pub record Sound (r : Row) : Type 0 where
  pub nested : nest 0 r.commands ≡ length r.levels
  pub pushed : All (Pushed r.commands) r.levels

pushed-later : (cs ds : List Command) (l : Level) → Pushed cs l → Pushed (cs ++ ds) l
pushed-later cs ds l p = record {
  there = rw (length-append cs ds) (let h = p.there in omega arith);
  push = rw (get_or-append cs ds pop-buf l.place p.there) p.push;
}

pushed-set : (cs : List Command) (i : ℕ) (u : Option Span) (l : Level) → Pushed cs l → Pushed (set cs i (push-buf u)) l
pushed-set cs i u l p = record {
  there = rw (length-set cs i (push-buf u)) p.there;
  push = by (eqb l.place i)
      (λ y. let e = eqb-true l.place i y in rw (e, get_or-set_same cs i (push-buf u) pop-buf (rw e at p.there)))
      (λ n. rw (get_or-set_other cs i l.place (push-buf u) pop-buf (eqb-false l.place i n)) p.push);
}

pushed-union : (cs : List Command) (o : Option Span) {ls : List Level} → All (Pushed cs) ls → All (Pushed cs) (include o ls)
pushed-union cs None a = a
pushed-union cs (Some s) nil = nil
pushed-union cs (Some s) (cons p a) = cons (record { there = p.there; push = p.push }) a

include-length : (o : Option Span) (ls : List Level) → length (include o ls) ≡ length ls
include-length None ls = refl
include-length (Some s) [] = refl
include-length (Some s) (l ∷ ls) = refl

module _ (w : ℕ) (attrs : Attrs) (t : ℕ) where
  pub told-append : (n : ℕ) (cs ds : List Command) → told-commands w attrs t n (cs ++ ds) ≡ told-commands w attrs t n cs ++ told-commands w attrs t (nest n cs) ds
  unfolding told-commands nest
  told-append n [] ds = refl
  told-append n (paint-fill s a i ∷ cs) ds = rw (told-append n cs ds) (keep-before (covers s t) _ _ _)
  told-append n (layer-fill s a i ∷ cs) ds = rw (told-append n cs ds) (keep-before (covers s t) _ _ _)
  told-append n (push-buf s ∷ cs) ds = told-append (n + 1) cs ds
  told-append n (pop-buf ∷ cs) ds = told-append (n - 1) cs ds

  -- .. nor to what the tile is told
  told-set : (n : ℕ) (cs : List Command) (i : ℕ) (u : Option Span) → is-push (get_or cs i pop-buf) ≡ true
      → told-commands w attrs t n (set cs i (push-buf u)) ≡ told-commands w attrs t n cs
  unfolding told-commands
  told-set n [] i u e = refl
  told-set n (paint-fill s a j ∷ cs) zero u e = never (sym e)
  told-set n (layer-fill s a j ∷ cs) zero u e = never (sym e)
  told-set n (push-buf s ∷ cs) zero u e = refl
  told-set n (pop-buf ∷ cs) zero u e = never (sym e)
  told-set n (paint-fill s a j ∷ cs) (suc i) u e = rw (told-set n cs i u e)
  told-set n (layer-fill s a j ∷ cs) (suc i) u e = rw (told-set n cs i u e)
  told-set n (push-buf s ∷ cs) (suc i) u e = told-set (n + 1) cs i u e
  told-set n (pop-buf ∷ cs) (suc i) u e = told-set (n - 1) cs i u e

  pub fills-append : (fs gs : List DepthFill) → told-fills w attrs t (fs ++ gs) ≡ told-fills w attrs t fs ++ told-fills w attrs t gs
  fills-append [] gs = refl
  fills-append (f ∷ fs) gs = rw (fills-append fs gs) (keep-before (covers f.buckets (t / w)) _ _ _)

  -- from the row r to the row q: the commands add us, the depth fills hs, and m buffers are open then
  pub record Adds (us hs : List Told) (m : ℕ) (r q : Row) : Type 0 where
    pub commands : told-commands w attrs t 0 q.commands ≡ told-commands w attrs t 0 r.commands ++ us
    pub fills : told-fills w attrs t q.fills ≡ told-fills w attrs t r.fills ++ hs
    pub levels : length q.levels ≡ m
    pub sound : Sound q
    pub numbered : All (Numbered w attrs t) r.fills → All (Numbered w attrs t) q.fills
    pub summed : Summed w attrs r → Summed w attrs q

  pub adds_none : (r : Row) → Sound r → Adds [] [] (length r.levels) r r
  adds_none r s = record { commands = sym (append-nil _); fills = sym (append-nil _); levels = refl; sound = s; numbered = λ a. a; summed = λ a. a }

  pub adds-both : {us hs vs gs : List Told} {m n : ℕ} {r q p : Row} → Adds us hs m r q → Adds vs gs n q p → Adds (us ++ vs) (hs ++ gs) n r p
  adds-both {us} {hs} {vs} {gs} {r = r} a b = record {
    commands = b.commands ∙ ap (λ (l : List Told). l ++ vs) a.commands ∙ append_assoc (told-commands w attrs t 0 r.commands) us vs;
    fills = b.fills ∙ ap (λ (l : List Told). l ++ gs) a.fills ∙ append_assoc (told-fills w attrs t r.fills) hs gs;
    levels = b.levels;
    sound = b.sound;
    numbered = λ x. b.numbered (a.numbered x);
    summed = λ x. b.summed (a.summed x);
  }

  -- a fill put on the row
  put-adds : (c : Command) (r : Row) → Sound r → nest (length r.levels) (c ∷ []) ≡ length r.levels
      → Adds (told-commands w attrs t (length r.levels) (c ∷ [])) [] (length r.levels) r (put-command c r)
  unfolding put-command
  put-adds c r s e = record {
    commands = told-append 0 r.commands (c ∷ []) ∙ rw s.nested;
    fills = sym (append-nil _);
    levels = include-length (adds c) r.levels;
    sound = record {
      nested = nest-append 0 r.commands (c ∷ []) ∙ rw (s.nested, include-length (adds c) r.levels) e;
      pushed = pushed-union (r.commands ++ (c ∷ [])) (adds c) (all_map (λ (l : Level). pushed-later r.commands (c ∷ []) l) s.pushed);
    };
    numbered = λ a. a;
    summed = λ a. a;
  }

  pub paint-adds : (s : Span) (a : Option ℕ) (i : ℕ) (r : Row) → Sound r
      → Adds (keep (covers s t) (paint-told w attrs t s a i (length r.levels)) []) [] (length r.levels) r (put-command (paint-fill s a i) r)
  paint-adds s a i r k = unfold told-commands in put-adds (paint-fill s a i) r k (unfold nest in refl)

  pub close-adds : (s : Span) (a : Option ℕ) (i : ℕ) (r : Row) → Sound r
      → Adds (keep (covers s t) (layer-told w attrs t s a i (length r.levels)) []) [] (length r.levels) r (put-command (layer-fill s a i) r)
  close-adds s a i r k = unfold told-commands in put-adds (layer-fill s a i) r k (unfold nest in refl)

  -- a buffer pushed
  pushed-new : (cs : List Command) → Pushed (cs ++ (push-buf None ∷ [])) (record { place = length cs; union = None })
  pushed-new cs = record {
    there = rw (length-append cs (push-buf None ∷ [])) (omega arith);
    push = rw (get_or-append_seam cs (push-buf None) [] pop-buf);
  }

  pub push-adds : (r : Row) → Sound r → Adds [] [] (suc (length r.levels)) r (put-push-buf r)
  unfolding put-push-buf told-commands nest
  push-adds r s = record {
    commands = told-append 0 r.commands (push-buf None ∷ []);
    fills = sym (append-nil _);
    levels = refl;
    sound = record {
      nested = nest-append 0 r.commands (push-buf None ∷ []) ∙ rw s.nested (add-one (length r.levels));
      pushed = cons (pushed-new r.commands) (all_map (λ (l : Level). pushed-later r.commands (push-buf None ∷ []) l) s.pushed);
    };
    numbered = λ a. a;
    summed = λ a. a;
  }

  -- a buffer popped: its PushBuf gets its span
  popped : (ls : List Level) (m : ℕ) (r : Row) → nest 0 r.commands ≡ suc m → All (Pushed r.commands) ls → length ls ≡ suc m → Adds [] [] m r (pop-levels ls r)
  unfolding told-commands nest
  popped [] m r e a h = absurd (omega arith)
  popped (l ∷ ls) m r e (cons p a) h =
      let cs = set r.commands l.place (push-buf l.union) in
      let len : length ls ≡ m = omega arith in
      let back : suc m - 1 ≡ m = omega arith in
      record {
        commands = told-append 0 cs (pop-buf ∷ []) ∙ ap (λ (us : List Told). us ++ []) (told-set 0 r.commands l.place l.union p.push);
        fills = sym (append-nil _);
        levels = len;
        sound = record {
          nested = nest-append 0 cs (pop-buf ∷ []) ∙ rw (nest-set 0 r.commands l.place l.union p.push, e) (back ∙ sym len);
          pushed = all_map (λ (k : Level) (q : Pushed r.commands k). pushed-later cs (pop-buf ∷ []) k (pushed-set r.commands l.place l.union k q)) a;
        };
        numbered = λ x. x;
        summed = λ x. x;
      }

  pub pop-adds : (m : ℕ) (r : Row) → Sound r → length r.levels ≡ suc m → Adds [] [] m r (put-pop-buf r)
  unfolding put-pop-buf
  pop-adds m r s h = popped r.levels m r (s.nested ∙ h) s.pushed h

  -- a depth fill
  pub depth-adds : (f : DepthFill) (id : ℕ) (r : Row) → Sound r → Numbered w attrs t f → paint-id attrs f.attribute ≤ id
      → Adds [] (keep (covers f.buckets (t / w)) (fill-told w attrs t f) []) (length r.levels) r (put-depth-fill w f id r)
  unfolding put-depth-fill
  depth-adds f id r s p le = record {
    commands = sym (append-nil _);
    fills = fills-append r.fills (f ∷ []);
    levels = refl;
    sound = record { nested = s.nested; pushed = s.pushed };
    numbered = λ a. all_append a (cons p nil);
    summed = λ a. unfold put-depth-fill in depth-summed w attrs f id r le a;
  }

  -- rule 5: as many buffers as layers are open
  pushes-add : (k : ℕ) (r : Row) → Sound r → Adds [] [] (k + length r.levels) r (times k put-push-buf r)
  pushes-add zero r s = rw (zero-add (length r.levels)) (adds_none r s)
  pushes-add (suc k) r s =
      let a = push-adds r s in
      let b = pushes-add k (put-push-buf r) a.sound in
      let e : k + length (put-push-buf r).levels ≡ suc k + length r.levels = rw a.levels (omega arith) in
      rw e at (adds-both a b)

  pub ensure-adds : (n : ℕ) (r : Row) → Sound r → length r.levels ≤ n → Adds [] [] n r (ensure Row row-ops n r)
  ensure-adds n r s h =
      let e : n - length r.levels + length r.levels ≡ n = omega arith in
      rw e at (pushes-add (n - length r.levels) r s)

  -- The acts, with n layers open.
  pub act-paint : (n : ℕ) (s : Span) (a : Option ℕ) (i : ℕ) (r : Row) → Sound r → length r.levels ≤ n
      → Adds (keep (covers s t) (paint-told w attrs t s a i n) []) [] n r (do-act Row row-ops w n (paint s a i) r)
  unfolding do-act
  act-paint n s a i r k h =
      let e = ensure-adds n r k h in
      adds-both e (rw e.levels at (paint-adds s a i (ensure Row row-ops n r) e.sound))

  pub act-touch : (n : ℕ) (r : Row) → Sound r → length r.levels ≤ n → Adds [] [] n r (do-act Row row-ops w n touch r)
  unfolding do-act
  act-touch n r k h = ensure-adds n r k h

  pub act-close : (n m : ℕ) (s : Span) (a : Option ℕ) (i : ℕ) (r : Row) → Sound r → length r.levels ≡ m
      → Adds (keep (covers s t) (layer-told w attrs t s a i m) []) [] m r (do-act Row row-ops w n (close s a i) r)
  unfolding do-act
  act-close n m s a i r k h = rw h at (close-adds s a i r k)

  pub act-pop : (n m : ℕ) (r : Row) → Sound r → length r.levels ≡ suc m → Adds [] [] m r (do-act Row row-ops w n pop r)
  unfolding do-act
  act-pop n m r k h = pop-adds m r k h
