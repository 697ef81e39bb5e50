-- Each worked text is what the definition computes.
use Rattle.std.proofs.Common.{refl}
use Rattle.std.specs.Fmt.{digits}
use Rattle.base64.specs.Rfc4648.{encode_symbols}
use Rattle.sk_text.specs.Numbers.{number_of}
use Rattle.sk_text.specs.Hexadecimal.{bytes_in, hex_word}
use Rattle.hex.specs.Hex.{decode_pairs, encode_with}
use Rattle.base64.specs.Decode.{groups_error, groups_bytes, scan_steps}
use Rattle.sk_forms.specs.Comments.{next_place, kept, end_of}
use Rattle.sk_forms.specs.Words.{is_blank, is_word_byte, goes_on, begun}
use Rattle.sk_forms.specs.Tokens.{is_letter_behind, without_letter, hexadecimal, padded, decimal, number_token, token_of}
use Rattle.sk_forms.specs.Names.{macro_named, field_named, word_named, all_names, all_numbers, constant_named, name_of}
use Rattle.sk_forms.specs.Grammar.{behind, past, behind_word, number_at, decimal_at, field_at}
use Rattle.sk_forms.specs.Values.{element, place_at, offset, plain, masked, bracketed, operand, sum_at, bits_at, value_at}
use Rattle.sk_forms.specs.Rows.{braces, statement, jump, instruction, between, behind_end, four, row}
use Rattle.sk_forms.specs.Arrays.{ends, closes, rows_there, bare, in_braces, declared, list_at, filter_at, filter_alone, length_at, ends_program, program, array}
use Rattle.sk_forms.specs.Decimals.{counted, decimals, is_miscounted}
use Rattle.sk_forms.specs.Tables.{behind_place, table_row, is_head, is_rule, behind_head, table}
use Rattle.sk_forms.specs.Dumps.{whole_image, behind_offset, columns, line_bytes, dump}
use Rattle.sk_forms.specs.ByteArrays.{bytes_at, bare_bytes, tells_length, ends_bytes, bytes_in_braces, declared_bytes, byte_array}
use Rattle.sk_forms.specs.Strings.{parts_strings, escape, escaped, strings}
use Rattle.sk_forms.specs.Base64.{letters, base64}
use Rattle.sk_forms.specs.Listings.{instructions_written, bytes_written, listing_of}
use Rattle.sk_forms.specs.WorkedArrays.{WorkedArrays}
use Rattle.sk_forms.specs.WorkedDecimals.{WorkedDecimals}
use Rattle.sk_forms.specs.WorkedMacros.{WorkedMacros}
use Rattle.sk_forms.specs.WorkedTables.{WorkedTables}
use Rattle.sk_forms.specs.WorkedDumps.{WorkedDumps}
use Rattle.sk_forms.specs.WorkedStrings.{WorkedStrings}
use Rattle.sk_forms.specs.WorkedWriting.{WorkedWriting}

pub worked_arrays : WorkedArrays
unfolding number_of groups_error groups_bytes scan_steps bytes_in hex_word decode_pairs encode_with next_place kept end_of is_blank is_word_byte goes_on begun is_letter_behind without_letter hexadecimal padded decimal number_token token_of macro_named field_named word_named all_names all_numbers constant_named name_of behind past behind_word number_at decimal_at field_at element place_at offset plain masked bracketed operand sum_at bits_at value_at braces statement jump instruction between behind_end four row ends closes rows_there bare in_braces declared list_at filter_at filter_alone length_at ends_program program array counted decimals behind_place table_row is_head is_rule behind_head table whole_image behind_offset columns line_bytes dump bytes_at bare_bytes tells_length ends_bytes bytes_in_braces declared_bytes byte_array parts_strings escape escaped strings letters base64 instructions_written bytes_written listing_of
worked_arrays = record {
  bytes = refl;
  tcpdump = refl;
  bpf_asm = refl;
  head = refl;
  braces = refl;
  one_line = refl;
  suffixes = refl;
  greatest = refl;
  blanks = refl;
  parted = refl;
  no_row = refl;
  nothing = refl;
  remark = refl;
  three = refl;
  five = refl;
  code = refl;
  far_true = refl;
  far_false = refl;
  operand = refl;
  octal = refl;
  hexadecimal = refl;
  letters = refl;
  negative = refl;
  more = refl;
  more_braces = refl;
  no_comma = refl;
  two_commas = refl;
  unfinished = refl;
  open_head = refl;
  open_remark = refl;
  half_remark = refl;
  no_declaration = refl;
}

pub worked_decimals : WorkedDecimals
unfolding number_of groups_error groups_bytes scan_steps bytes_in hex_word decode_pairs encode_with next_place kept end_of is_blank is_word_byte goes_on begun is_letter_behind without_letter hexadecimal padded decimal number_token token_of macro_named field_named word_named all_names all_numbers constant_named name_of behind past behind_word number_at decimal_at field_at element place_at offset plain masked bracketed operand sum_at bits_at value_at braces statement jump instruction between behind_end four row ends closes rows_there bare in_braces declared list_at filter_at filter_alone length_at ends_program program array counted decimals is_miscounted behind_place table_row is_head is_rule behind_head table whole_image behind_offset columns line_bytes dump bytes_at bare_bytes tells_length ends_bytes bytes_in_braces declared_bytes byte_array parts_strings escape escaped strings letters base64 instructions_written bytes_written listing_of
worked_decimals = record {
  tcpdump = refl;
  bpf_asm = refl;
  no_last_comma = refl;
  open_line = refl;
  returns = refl;
  not_hexadecimal = refl;
  greatest = refl;
  none = refl;
  nothing = refl;
  count_alone = refl;
  fewer = refl;
  many_more = refl;
  more = refl;
  three = refl;
  five = refl;
  three_and_five = refl;
  in_a_row = refl;
  code = refl;
  far_true = refl;
  far_false = refl;
  operand = refl;
  hexadecimal = refl;
  padded = refl;
  padded_count = refl;
  letters = refl;
  empty_row = refl;
  cut_short = refl;
  one_more = refl;
  counts_none = refl;
  counted = refl;
  no_rows = refl;
  short_row = refl;
  long_row = refl;
  no_number = refl;
  parted = refl;
  wide = refl;
  digits = refl;
  by_chance = refl;
}

pub worked_macros : WorkedMacros
unfolding number_of groups_error groups_bytes scan_steps bytes_in hex_word decode_pairs encode_with next_place kept end_of is_blank is_word_byte goes_on begun is_letter_behind without_letter hexadecimal padded decimal number_token token_of macro_named field_named word_named all_names all_numbers constant_named name_of behind past behind_word number_at decimal_at field_at element place_at offset plain masked bracketed operand sum_at bits_at value_at braces statement jump instruction between behind_end four row ends closes rows_there bare in_braces declared list_at filter_at filter_alone length_at ends_program program array counted decimals behind_place table_row is_head is_rule behind_head table whole_image behind_offset columns line_bytes dump bytes_at bare_bytes tells_length ends_bytes bytes_in_braces declared_bytes byte_array parts_strings escape escaped strings letters base64 instructions_written bytes_written listing_of
worked_macros = record {
  strace = refl;
  strace_data = refl;
  selftest = refl;
  architecture = refl;
  element = refl;
  first_element = refl;
  pointer = refl;
  brackets = refl;
  mask = refl;
  in_braces = refl;
  mixed = refl;
  sum_first = refl;
  sum_last = refl;
  named_as_a_field = refl;
  longer = refl;
  cut_short = refl;
  unclosed = refl;
  no_list = refl;
  another = refl;
  unknown = refl;
  lower_case = refl;
  no_action = refl;
  no_field = refl;
  other_struct = refl;
  sixth = refl;
  indexed = refl;
  open_bits = refl;
  too_large = refl;
  code = refl;
  far = refl;
  open_bracket = refl;
  mask_alone = refl;
  three = refl;
  one = refl;
  two = refl;
  statement_in_braces = refl;
  taken_by_value = refl;
}

pub worked_tables : WorkedTables
unfolding number_of groups_error groups_bytes scan_steps bytes_in hex_word decode_pairs encode_with next_place kept end_of is_blank is_word_byte goes_on begun is_letter_behind without_letter hexadecimal padded decimal number_token token_of macro_named field_named word_named all_names all_numbers constant_named name_of behind past behind_word number_at decimal_at field_at element place_at offset plain masked bracketed operand sum_at bits_at value_at braces statement jump instruction between behind_end four row ends closes rows_there bare in_braces declared list_at filter_at filter_alone length_at ends_program program array counted decimals behind_place table_row is_head is_rule behind_head table whole_image behind_offset columns line_bytes dump bytes_at bare_bytes tells_length ends_bytes bytes_in_braces declared_bytes byte_array parts_strings escape escaped strings letters base64 instructions_written bytes_written listing_of
worked_tables = record {
  seccomp_tools = refl;
  scmp_bpf_disasm = refl;
  no_head = refl;
  blank_lines = refl;
  head_alone = refl;
  no_rule = refl;
  no_names = refl;
  from_one = refl;
  left_out = refl;
  three = refl;
  three_and_text = refl;
  no_colon = refl;
  code = refl;
  far_true = refl;
  far_false = refl;
  operand = refl;
  more = refl;
}

pub worked_dumps : WorkedDumps
unfolding number_of groups_error groups_bytes scan_steps bytes_in hex_word decode_pairs encode_with next_place kept end_of is_blank is_word_byte goes_on begun is_letter_behind without_letter hexadecimal padded decimal number_token token_of macro_named field_named word_named all_names all_numbers constant_named name_of behind past behind_word number_at decimal_at field_at element place_at offset plain masked bracketed operand sum_at bits_at value_at braces statement jump instruction between behind_end four row ends closes rows_there bare in_braces declared list_at filter_at filter_alone length_at ends_program program array counted decimals behind_place table_row is_head is_rule behind_head table whole_image behind_offset columns line_bytes dump bytes_at bare_bytes tells_length ends_bytes bytes_in_braces declared_bytes byte_array parts_strings escape escaped strings letters base64 instructions_written bytes_written listing_of
worked_dumps = record {
  xxd = refl;
  hexdump = refl;
  letters = refl;
  xxd_i = refl;
  xxd_i_alone = refl;
  c_array = refl;
  last_comma = refl;
  four_bytes = refl;
  odd = refl;
  later = refl;
  left_out = refl;
  other_length = refl;
  squeezed = refl;
  no_place = refl;
  no_bytes = refl;
  plain_digits = refl;
  byte = refl;
  no_comma = refl;
  no_commas = refl;
  seven = refl;
  wrong_length = refl;
  more = refl;
  unclosed = refl;
}

pub worked_strings : WorkedStrings
unfolding number_of groups_error groups_bytes scan_steps bytes_in hex_word decode_pairs encode_with next_place kept end_of is_blank is_word_byte goes_on begun is_letter_behind without_letter hexadecimal padded decimal number_token token_of macro_named field_named word_named all_names all_numbers constant_named name_of behind past behind_word number_at decimal_at field_at element place_at offset plain masked bracketed operand sum_at bits_at value_at braces statement jump instruction between behind_end four row ends closes rows_there bare in_braces declared list_at filter_at filter_alone length_at ends_program program array counted decimals behind_place table_row is_head is_rule behind_head table whole_image behind_offset columns line_bytes dump bytes_at bare_bytes tells_length ends_bytes bytes_in_braces declared_bytes byte_array parts_strings escape escaped strings letters base64 instructions_written bytes_written listing_of
worked_strings = record {
  string = refl;
  two_strings = refl;
  base64 = refl;
  padding = refl;
  broken_line = refl;
  seven = refl;
  other_escape = refl;
  no_escape = refl;
  no_digit = refl;
  more = refl;
  no_padding = refl;
  six_bytes = refl;
  other_letter = refl;
  parted = refl;
  word = refl;
  digits = refl;
  loads = refl;
}

pub worked_writing : WorkedWriting
unfolding digits hex_word encode_with encode_symbols
worked_writing = record {
  tcpdump = refl;
  bpf_asm = refl;
  base64 = refl;
  padding = refl;
  loads = refl;
}
