-- A space and a word more, or a beginning of them.
use Rattle.std.proofs.Common.{[], ◌∷◌, ◌++◌, refl}
use Rattle.std.proofs.lemmas.Result.{err_from_is_err_and}
use Rattle.aom_debug_views.proofs.Spaced.{before_space, before_word, behind_word}
use Rattle.aom_debug_views.proofs.Reporting.{cut_within, sent_on}
use Rattle.aom_debug_views.proofs.sending.send_words.Goals as goal

pub returns-in_err-send-clause-err : goal.returns-in_err-send-clause-err
returns-in_err-send-clause-err g c =
    let error = err_from_is_err_and c.from_residual.result c.from_residual.ensures.1 in
    let i = c.loop-word.invariant in
    rw (error.1, error.2) (cut_within _ _ _ i.0 (32 ∷ []) _ _ _ _ (before_space i.0 _ _ _ _ c.in-Some.ensures.word refl i.2) i.1 c.in_err-send.ensures.err)

pub returns-in_err-send-2-clause-err : goal.returns-in_err-send-2-clause-err
returns-in_err-send-2-clause-err g c =
    let error = err_from_is_err_and c.from_residual-in_err-send-2.result c.from_residual-in_err-send-2.ensures.1 in
    let i = c.loop-word.invariant in
    rw (error.1, error.2) (cut_within _ _ _ (i.0 ++ 32 ∷ []) _ _ _ _ _
    (before_word i.0 _ _ _ _ c.in-Some.ensures.word refl i.2) (sent_on _ _ _ i.0 (32 ∷ []) i.1 c.in_ok-send.ensures.ok) c.in_err-send-2.ensures.err)

pub loop-word-preserved : goal.loop-word-preserved
loop-word-preserved g c =
    let i = c.loop-word.invariant in
    let w = c.in-Some.word.now in (
      (i.0 ++ 32 ∷ []) ++ w,
      sent_on _ _ _ (i.0 ++ 32 ∷ []) w (sent_on _ _ _ i.0 (32 ∷ []) i.1 c.in_ok-send.ensures.ok) c.in_ok-send-2.ensures.ok,
      behind_word i.0 _ _ w _ c.in-Some.ensures.word c.in-Some.ensures.rest i.2,
    )
