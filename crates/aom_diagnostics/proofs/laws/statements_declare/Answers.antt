-- The statements of a text are those of its program, and what is found of them is found there.
use Rattle.aom_diagnostics.proofs.Found.{class_lines_found, found_class, found_classes, found_image, found_method, found_methods, method_lines_found}
use Rattle.aom_diagnostics.proofs.laws.statements_declare.Goals as goal

pub returns : goal.returns
returns c = record {
  class_names = found_classes;
  method_names = found_methods;
  class_lines = class_lines_found;
  method_lines = method_lines_found;
  image = found_image;
  classes = found_class;
  methods = found_method;
}
