-- A front of the text was written.
use Rattle.std.proofs.Common.{arith, sym, subst, take, ◌+◌, ◌∙◌, ap}
use Rattle.std.proofs.Math.Seq.{take-length}
use Rattle.std.specs.Io.KnownBytes.{Appends}
use Rattle.gw_streams.proofs.Outputs.{appends_none, piece_more, piece_kept, piece_within, rest_is}
use Rattle.gw_streams.proofs.output.write_output.Goals as goal
use Rattle.gw_streams.proofs.output.write_output.Goals.{in-Ok, in-Err+else-ne}

pub loop-init : goal.loop-init
loop-init g c = (appends_none (g.W.Write.contents c.args.output.now), omega arith)

pub returns-then-written-text-clause-whole : goal.returns-then-written-text-clause-whole
returns-then-written-text-clause-whole g c =
    subst (Appends (g.W.Write.contents c.args.output.now) (g.W.Write.contents c.loop.output))
    (ap (λ n. take n c.args.text.now) c.if-written-text.true ∙ take-length c.args.text.now) c.loop.invariant.0

pub returns-in-Ok-eq0-clause-front : goal.returns-in-Ok-eq0-clause-front
returns-in-Ok-eq0-clause-front g c = (
  c.loop.written + c.in-Ok-eq0.field-0,
  piece_more _ (g.W.Write.contents c.loop.output) (g.W.Write.contents c.write.new.self) c.loop.written
      c.in-Ok-eq0.field-0 c.args.text.now c.loop.invariant.0
      (subst (λ rest. Appends (g.W.Write.contents c.loop.output) (g.W.Write.contents c.write.new.self)
      (take c.in-Ok-eq0.field-0 rest)) (rest_is c.loop.written c.args.text.now) c.in-Ok-eq0.ensures.bytes),
)

pub returns-then-ne-clause-front : goal.returns-then-ne-clause-front
returns-then-ne-clause-front g c =
    (c.loop.written, piece_kept _ _ _ (take c.loop.written c.args.text.now) c.loop.invariant.0 c.in-Err.ensures.bytes)

pub loop-preserved : goal.loop-preserved
loop-preserved g c = elim c.match-write.branch [
  | in-Ok w ↦ (let old = g.W.Write.contents c.args.output.now in
      let new = g.W.Write.contents c.write.new.self in
      let all = piece_more old (g.W.Write.contents c.loop.output) new c.loop.written w.in-Ok.count c.args.text.now
      c.loop.invariant.0
      (subst (λ rest. Appends (g.W.Write.contents c.loop.output) new (take w.in-Ok.count rest))
      (rest_is c.loop.written c.args.text.now) w.in-Ok.ensures.bytes) in (
        subst (λ n. Appends old new (take n c.args.text.now)) (sym w.written-is) all,
        (let within = piece_within c.loop.written w.in-Ok.count c.args.text.now c.loop.invariant.1
            w.in-Ok.ensures.bound in omega (arith, within, w.written-is)),
      ))
  | in-Err+else-ne w ↦ (
    subst (λ n. Appends (g.W.Write.contents c.args.output.now) (g.W.Write.contents c.write.new.self)
        (take n c.args.text.now)) (sym w.written-is)
        (piece_kept _ _ _ (take c.loop.written c.args.text.now) c.loop.invariant.0 w.in-Err.ensures.bytes),
    omega (arith, w.written-is, c.loop.invariant.1),
  )
]

pub returns-then-written-text-2-clause-whole : goal.returns-then-written-text-2-clause-whole
returns-then-written-text-2-clause-whole g c =
    subst (Appends (g.W.Write.contents c.args.output.now) (g.W.Write.contents c.loop.output))
    (ap (λ n. take n c.args.text.now) c.if-written-text-2.true ∙ take-length c.args.text.now) c.loop.invariant.0

pub returns-else-written-text-2-clause-front : goal.returns-else-written-text-2-clause-front
returns-else-written-text-2-clause-front g c = (c.loop.written, c.loop.invariant.0)
