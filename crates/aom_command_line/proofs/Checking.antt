-- Why a text beside an image that is to be checked, or to be run, is refused.
use Rattle.std.proofs.Common.{◌≡◌, ◌||◌, Bool, false, true, List, Some, codes, inl, inr, arith, refl}
use Rattle.clap.specs.Words.{Row, one_of}
use Rattle.aom_command_line.specs.declared.words.WordsFault.{WordsFault}
use Rattle.aom_command_line.specs.declared.words.WordsFault.TheVariants as faults
use Rattle.aom_command_line.specs.CommandLine.{Declines, DeclinesText, IsFlag}
use Rattle.aom_command_line.proofs.Reading.{unset}

module _ (explain lines prices : Bool) (none : ((explain || lines) || prices) ≡ false) where
  explain_unset : explain ≡ false
  explain_unset = grind arith

  lines_unset : lines ≡ false
  lines_unset = grind arith

  prices_unset : prices ≡ false
  prices_unset = grind arith

pub checks_no_text : (rows : List Row) (explain lines prices : Bool) (fault : WordsFault) → IsFlag (one_of (codes "explain") rows) explain →
    IsFlag (one_of (codes "lines") rows) lines → IsFlag (one_of (codes "prices") rows) prices → DeclinesText rows ((explain || lines) || prices) fault →
    Declines true (Some (codes "check", rows)) fault
checks_no_text rows explain lines prices (faults.Text text) e l p (inl lacks) = λ taken command. inl (inl (
  refl,
  inr (inl (record {
    named = lacks.0;
    unasked = (
      unset rows (codes "explain") explain e (explain_unset explain lines prices lacks.1),
      (
        unset rows (codes "lines") lines l (lines_unset explain lines prices lacks.1),
        (unset rows (codes "prices") prices p (prices_unset explain lines prices lacks.1), tt),
      ),
    );
  })),
))
checks_no_text rows explain lines prices (faults.Text text) e l p (inr two) = λ taken command. inl (inl (refl, inr (inr (inl two))))
checks_no_text rows explain lines prices faults.Native e l p d = absurd d
checks_no_text rows explain lines prices faults.Memory e l p d = d

pub runs_no_text : (rows : List Row) (explain names warn : Bool) (fault : WordsFault) → IsFlag (one_of (codes "explain") rows) explain →
    IsFlag (one_of (codes "names") rows) names → IsFlag (one_of (codes "warn") rows) warn → DeclinesText rows ((explain || names) || warn) fault →
    Declines true (Some (codes "run", rows)) fault
runs_no_text rows explain names warn (faults.Text text) e n w (inl lacks) = λ taken command. inl (inr (inl (
  refl,
  inr (inl (record {
    named = lacks.0;
    unasked = (
      unset rows (codes "explain") explain e (explain_unset explain names warn lacks.1),
      (
        unset rows (codes "names") names n (lines_unset explain names warn lacks.1),
        (unset rows (codes "warn") warn w (prices_unset explain names warn lacks.1), tt),
      ),
    );
  })),
)))
runs_no_text rows explain names warn (faults.Text text) e n w (inr two) = λ taken command. inl (inr (inl (refl, inr (inr (inl two)))))
runs_no_text rows explain names warn faults.Native e n w d = absurd d
runs_no_text rows explain names warn faults.Memory e n w d = d
