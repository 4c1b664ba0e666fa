use Rattle.std.proofs.Common.{◌≡◌, ◌+◌, length, arith}
use Rattle.aom_clients.proofs.RingSteps.{pushed, last-within}
use Rattle.aom_clients.proofs.lists.Lists.push_last.Goals as goal

pub index_mut-requires : goal.index_mut-requires
index_mut-requires c =
    let s = c.self.inside in
    let end : c.len.result + c.args.list ≡ length s.owner_lists.items + c.args.list = omega (arith, c.len.ensures, s.owner_lists.ok.0) in
    omega (
      arith,
      s.after.ok.0,
      last-within _ _ _ _ _ c.self.view_is c.self.invariant c.args.list c.args.node c.index-last.result.now
          (c.len.result + c.args.list) c.requires.list c.requires.node c.requires.free c.index-last.ensures end,
    )

pub overflow_add-index_mut : goal.overflow_add-index_mut
overflow_add-index_mut c =
    let s = c.self.inside in
    let end : c.len.result + c.args.list ≡ length s.owner_lists.items + c.args.list = omega (arith, c.len.ensures, s.owner_lists.ok.0) in
    let made = pushed _ _ _ _ _ c.self.view_is c.self.invariant c.args.list c.args.node c.index-last.result.now (c.len.result + c.args.list)
    c.index_mut-6.result.now c.requires.list c.requires.node c.requires.free c.index-last.ensures end c.index_mut-6.ensures.value in
    omega (arith, made.fits)

pub invariant_of-self : goal.invariant_of-self
invariant_of-self c =
    let s = c.self.inside in
    let end : c.len.result + c.args.list ≡ length s.owner_lists.items + c.args.list = omega (arith, c.len.ensures, s.owner_lists.ok.0) in
    (pushed _ _ _ _ _ c.self.view_is c.self.invariant c.args.list c.args.node c.index-last.result.now (c.len.result + c.args.list) c.index_mut-6.result.now
    c.requires.list c.requires.node c.requires.free c.index-last.ensures end c.index_mut-6.ensures.value).circular

pub returns : goal.returns
returns c =
    let s = c.self.inside in
    let end : c.len.result + c.args.list ≡ length s.owner_lists.items + c.args.list = omega (arith, c.len.ensures, s.owner_lists.ok.0) in
    (pushed _ _ _ _ _ c.self.view_is c.self.invariant c.args.list c.args.node c.index-last.result.now (c.len.result + c.args.list) c.index_mut-6.result.now
    c.requires.list c.requires.node c.requires.free c.index-last.ensures end c.index_mut-6.ensures.value).seen
