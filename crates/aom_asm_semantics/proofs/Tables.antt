-- The words of the language and the mnemonics read back, and each is plain text.
use Rattle.std.proofs.Common.{◌≡◌, true, Some, None, refl}
use Rattle.std.specs.List.{list_all}
use Rattle.aom_text.specs.Words.{is_plain}
use Rattle.aom_syntax.specs.Keywords.{keyword_text, keyword_of}
use Rattle.aom_instructions.specs.Mnemonics.{mnemonic_text, mnemonic_of}
use Rattle.aom_syntax.specs.declared.keyword.Keyword.{Keyword}
use Rattle.aom_syntax.specs.declared.keyword.Keyword.TheVariants as k
use Rattle.aom_instructions.specs.declared.mnemonic.Mnemonic.{Mnemonic}
use Rattle.aom_instructions.specs.declared.mnemonic.Mnemonic.TheVariants as m
use Rattle.aom_syntax.specs.Methods.{label_of}

pub keyword_reads : (key : Keyword) → keyword_of (keyword_text key) ≡ Some key
keyword_reads = elim [ k.Image ↦ refl | _ ↦ refl ]

pub keyword_is_plain : (key : Keyword) → list_all is_plain (keyword_text key) ≡ true
keyword_is_plain = elim [ k.Image ↦ refl | _ ↦ refl ]

pub mnemonic_reads : (m : Mnemonic) → mnemonic_of (mnemonic_text m) ≡ Some m
mnemonic_reads = elim [ m.And ↦ refl | _ ↦ refl ]

pub mnemonic_is_plain : (m : Mnemonic) → list_all is_plain (mnemonic_text m) ≡ true
mnemonic_is_plain = elim [ m.And ↦ refl | _ ↦ refl ]

-- a mnemonic is no label
pub mnemonic_is_no_label : (m : Mnemonic) → label_of (mnemonic_text m) ≡ None
mnemonic_is_no_label = elim [ m.And ↦ refl | _ ↦ refl ]
