-- One method more has its lines and its names.
use Rattle.std.proofs.Common.{◌<◌, ap, get_or, length, subst}
use Rattle.aom_source_program.specs.declared.method.MethodId.{MethodId}
use Rattle.aom_source.specs.Map.{Adds, Names, method_tokens, names_of_method}
use Rattle.aom_source.proofs.Lines.{adds_none, some_more}
use Rattle.aom_source.proofs.Names.{names_begin, names_more}
use Rattle.aom_source.proofs.writing.write_methods.Goals as goal

pub loop-id-init : goal.loop-id-init
loop-id-init c = record {
  lines = adds_none c.args.written.now;
  names = names_begin c.args.written.now c.args.parts.codes.now.items _;
}

pub loop-id-preserved : goal.loop-id-preserved
loop-id-preserved c =
    let methods = c.args.parts.program.now.methods.items in
    let codes = c.args.parts.codes.now.items in
    let order = c.args.parts.order.now.items in
    let within : c.loop-id.id-index < length order = subst (λ ids. c.loop-id.id-index < length ids) c.deref-id-items.ensures.value c.loop-id-test.true in
    let a = c.args.written.now in
    let b = c.loop-id.written in
    let d = c.write_method.new.written in
    let so = c.loop-id.invariant in
    let none : MethodId = record { 0 = 0 } in
    let item = ap (λ ids. get_or ids c.loop-id.id-index none) c.deref-id-items.ensures.value in
    let next = subst (λ id. Adds b d (method_tokens methods codes id)) item c.in_ok-write_method.ensures.origins in
    let named = subst (λ id. Names b d (names_of_method codes (length b.origins.items) id)) item c.in_ok-write_method.ensures.names in
    record {
      lines = some_more (method_tokens methods codes) a b d order c.loop-id.id-index none within so.lines next;
      names = names_more a b d methods codes order c.loop-id.id-index none within so.lines next so.names named;
    }
