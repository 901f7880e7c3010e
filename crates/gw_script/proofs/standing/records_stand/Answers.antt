-- One record more stands where the ones in front of it do.
use Rattle.std.proofs.Common.{◌≡◌, ◌<◌, subst, refl, length, slice_get, Some, arith}
use Rattle.std.proofs.lemmas.Option.{slice_get_read, slice_get_within}
use borrow.Author.Count.{below_more}
use Rattle.can_segment.specs.declared.record.Record.{Record}
use Rattle.gw_script.specs.NamedPlaces.{NamesNodes}
use Rattle.gw_script.proofs.standing.records_stand.Goals as goal

pub loop-segment-preserved : goal.loop-segment-preserved
loop-segment-preserved c =
    let records = c.args.records.now in
    let i = c.loop-segment.segment in
    let script = c.args.script.now in
    let item = c.index-records-segment.result in
    let at : slice_get records i ≡ Some item =
    slice_get_read records (length records) i item refl c.loop-segment-test.true c.index-records-segment.is in
    below_more (λ place. (of : Record) → slice_get records place ≡ Some of → NamesNodes script place of) i
    c.loop-segment.invariant (λ of is.
    let same : item ≡ of = cc in
    let P : Record → Type 0 = NamesNodes script i in
    subst P same (c.if-not-record_stands.ensures.0 refl))

pub returns : goal.returns
returns c = (
  λ always place of is.
      c.loop-segment.invariant place (let lt : place < c.loop-segment.segment =
      omega (arith, slice_get_within c.args.records.now place of is) in lt) of is,
  λ stand. refl,
)
