use Rattle.std.proofs.Common.{◌≤◌, ◌≡◌, length, arith, rules}
use Rattle.rules.specs.Recording.{head, shape, in-edition}
use Rattle.rules.specs.Conversions.{converted, written}
use Rattle.convert.specs.Sections.{sections_of, file-in}
use Rattle.convert.proofs.Standing.{begin}
use Rattle.convert.proofs.Steps.{there, ends, more, room, put-done, put-stays, head-within, head-done, head-stays, all-put}
use Rattle.convert.proofs.sections.put_file.Goals as goal

pub loop-k-init : goal.loop-k-init
loop-k-init c =
    let h = head c.args.to in
    let n = c.put_head-put.result in
    let out = c.put_head-put.new.out in
    let count = c.put_head-put.ensures.count in
    let words = c.put_head-put.ensures.words in
    let rest = written (converted (shape c.args.to) (sections_of (in-edition c.args.from c.args.words.now))) in
    record {
      stands = rw c.head_length-at.ensures (begin _ _ c.requires.form);
      within = head-within h out c.args.out.now rest n count words;
      done = head-done h out c.args.out.now rest n count words;
      stays = head-stays h out c.args.out.now rest n count words;
    }

pub bounds-words-at : goal.bounds-words-at
bounds-words-at c =
    there c.args.to c.loop-k-test.true c.loop-k.invariant.stands c.record_sizes-old_sizes.ensures c.record_sizes-new_sizes.ensures

pub bounds-words-at-in-loop-k : goal.bounds-words-at-in-loop-k
bounds-words-at-in-loop-k c =
    there c.args.to c.loop-k-test.true c.loop-k.invariant.stands c.record_sizes-old_sizes.ensures c.record_sizes-new_sizes.ensures

pub bounds-out-put : goal.bounds-out-put
bounds-out-put c =
    let i = c.loop-k.invariant in
    let old = c.record_sizes-old_sizes.ensures in
    let new = c.record_sizes-new_sizes.ensures in
    let file = file-in c.args.from c.args.to c.args.words.now in
    let r = room c.args.to c.loop-k-test.true i.stands old new c.loop-k.put c.loop-k.out c.args.out.now file i.within i.done (omega (arith, c.requires.room)) in
    omega (arith, r)

pub slice_bounds-put_records-end : goal.slice_bounds-put_records-end
slice_bounds-put_records-end c =
    let i = c.loop-k.invariant in
    let old = c.record_sizes-old_sizes.ensures in
    let new = c.record_sizes-new_sizes.ensures in
    let e = ends c.args.to c.loop-k-test.true i.stands old new in
    search (rules, e)

pub slice_bounds-put_records-end-in-loop-k : goal.slice_bounds-put_records-end-in-loop-k
slice_bounds-put_records-end-in-loop-k c =
    let i = c.loop-k.invariant in
    let old = c.record_sizes-old_sizes.ensures in
    let new = c.record_sizes-new_sizes.ensures in
    let file = file-in c.args.from c.args.to c.args.words.now in
    let r = room c.args.to c.loop-k-test.true i.stands old new c.loop-k.put c.loop-k.out c.args.out.now file i.within i.done (omega (arith, c.requires.room)) in
    search (rules, r)

pub loop-k-preserved : goal.loop-k-preserved
loop-k-preserved c =
    let i = c.loop-k.invariant in
    let old = c.record_sizes-old_sizes.ensures in
    let new = c.record_sizes-new_sizes.ensures in
    let file = file-in c.args.from c.args.to c.args.words.now in
    let g : length file ≤ length c.loop-k.out = omega (arith, c.requires.room) in
    let r = room c.args.to c.loop-k-test.true i.stands old new c.loop-k.put c.loop-k.out c.args.out.now file i.within i.done g in
    record {
      stands = more c.args.to c.loop-k-test.true i.stands old new;
      within = search (rules, r);
      done = put-done c.args.to c.loop-k-test.true i.stands old new c.loop-k.put c.loop-k.out c.args.out.now file i.within i.done c.put_records.new.out g c.put_records.ensures;
      stays = put-stays c.args.to c.loop-k-test.true i.stands old new c.loop-k.put c.loop-k.out c.args.out.now file i.within i.done c.put_records.new.out g c.put_records.ensures i.stays;
    }

pub returns : goal.returns
unfolding converted
returns c =
    let e : c.loop-k.k ≡ 7 = omega arith in
    let g = c.loop-k.invariant.done in
    let h = rw e at g in
    all-put c.loop-k.put c.loop-k.out c.args.out.now (file-in c.args.from c.args.to c.args.words.now) c.loop-k.invariant.within h c.loop-k.invariant.stays
